-- The image of a disc is a disc, which the inverse relabelling carries back.
use Rattle.std.proofs.Common.{◌≡◌, ℕ, ◌/◌, ◌%◌, ◌<◌, Bool, true, List, [], length, refl, sym, ap, ◌∙◌, subst}
use Rattle.std.specs.Prelude.{slice_index}
use Rattle.std.specs.List.{list_all, slice_index_or}
use Rattle.std.proofs.lemmas.Bool.{agree_below, agree_below_at}
use mathlib.Core.Bool.{beq}
use Rattle.table_definitions.specs.Permutation.{IsPermutationOfFour, words, inverse, preimage}
use Rattle.table_definitions.specs.Relabelling.{Relabelling, IsRelabelling}
use Rattle.table_definitions.proofs.Carried.{perm_permutes}
use Rattle.table_definitions.proofs.Permutations.{by_words, bool_equal}
use Rattle.signature_laws.specs.Between.{inverted}
use Rattle.surface_definitions.specs.Coordinates.{columns_each}
use Rattle.surface_definitions.specs.declared.Coords.{Coords}
use Rattle.surface_definitions.specs.declared.Coords.TheVariants.{Standard, Quad, Octagon}
use Rattle.surface_definitions.specs.Pieces.{NormalDisc}
use Rattle.surface_definitions.proofs.ColumnCounts.{tet_of_index, index_of_index, index_below, tet_below}
use Rattle.surface_laws.specs.PieceLaws.{IsPieceOf}
use Rattle.surface_laws.proofs.ArcPieces.{from_end, from_end_below, from_end_twice, in_width}
use Rattle.surface_laws.proofs.PieceNumbers.{piece_at}
use Rattle.surface_relabelling_laws.specs.Vectors.{place_under, column_under}
use Rattle.surface_relabelling_laws.proofs.Columns.{image_at, IsCarried, column_at, split, placed_by, image_back, back_perm}
use Rattle.surface_relabelling_laws.proofs.Discs.{stays, disc_under}

back_test : Coords → List ℕ → ℕ → Bool
back_test coords p i = beq (stays coords (inverse p) (place_under coords p i)) (stays coords p i)

all_back : (coords : Coords) → list_all (λ p. agree_below (back_test coords p) (λ k. true) (columns_each coords)) words ≡ true
unfolding back_test place_under inverse preimage
all_back Standard = refl
all_back Quad = refl
all_back Octagon = refl

-- the positive side stays under a permutation if and only if it stays under the inverse
stays_back : (coords : Coords) (p : List ℕ) (i : ℕ) → IsPermutationOfFour p → i < columns_each coords → stays coords (inverse p) (place_under coords p i) ≡ stays coords p i
unfolding back_test
stays_back coords p i h l =
    bool_equal (stays coords (inverse p) (place_under coords p i)) (stays coords p i)
    (agree_below_at (back_test coords p) (λ k. true) (columns_each coords) i (by_words (λ p. agree_below (back_test coords p) (λ k. true) (columns_each coords)) (all_back coords) p h) l)

column_under_is : (coords : Coords) (by : Relabelling) (c : ℕ) → column_under coords by c ≡ image_at coords by (c / columns_each coords) (c % columns_each coords)
column_under_is coords by c = ap (column_under coords by) (sym (split coords c)) ∙ column_at coords by (c / columns_each coords) (c % columns_each coords) (index_below coords c)

module _ (coords : Coords) (n : ℕ) (by : Relabelling) (xs ys : List ℕ) (carried : IsCarried coords n by xs ys) where
  low_tet : (c : ℕ) → c < length xs → c / columns_each coords < n
  low_tet c l = tet_below coords n c (subst (λ m. c < m) carried.from_width l)

  pub same_entry : (c : ℕ) → c < length xs → slice_index ys (column_under coords by c) ≡ slice_index xs c
  same_entry c l =
      ap (slice_index ys) (column_under_is coords by c) ∙ carried.entries (c / columns_each coords) (c % columns_each coords) (low_tet c l) (index_below coords c) ∙ ap (slice_index xs) (split coords c)

  pub piece_image : (d : NormalDisc) → IsPieceOf xs d → IsPieceOf ys (disc_under coords by xs d)
  piece_image d h =
      let side : Bool = stays coords (slice_index_or by.perms (d.column / columns_each coords) []) (d.column % columns_each coords) in
      let low : from_end (slice_index xs d.column) side d.number < slice_index ys (column_under coords by d.column) =
      subst (λ m. from_end (slice_index xs d.column) side d.number < m) (sym (same_entry d.column h.column)) (from_end_below (slice_index xs d.column) side d.number h.number) in
      record { column = in_width ys (column_under coords by d.column) (from_end (slice_index xs d.column) side d.number) low; number = low }

  module _ (is : IsRelabelling n by) where
    pub disc_back : (d : NormalDisc) → IsPieceOf xs d → disc_under coords (inverted n by) ys (disc_under coords by xs d) ≡ d
    disc_back d h = λ m. piece_at (column m) (number m)
      where
        lt : d.column / columns_each coords < n
        lt = low_tet d.column h.column

        li : d.column % columns_each coords < columns_each coords
        li = index_below coords d.column

        below : place_under coords (slice_index_or by.perms (d.column / columns_each coords) []) (d.column % columns_each coords) < columns_each coords
        below = (placed_by coords n by is (d.column / columns_each coords) (d.column % columns_each coords) lt li).below

        column : column_under coords (inverted n by) (column_under coords by d.column) ≡ d.column
        column =
            ap (column_under coords (inverted n by)) (column_under_is coords by d.column)
            ∙ column_at coords (inverted n by) (slice_index by.images (d.column / columns_each coords)) (place_under coords (slice_index_or by.perms (d.column / columns_each coords) []) (d.column % columns_each coords)) below
            ∙ image_back coords n by is (d.column / columns_each coords) (d.column % columns_each coords) lt li ∙ split coords d.column

        tet : column_under coords by d.column / columns_each coords ≡ slice_index by.images (d.column / columns_each coords)
        tet = ap (λ c. c / columns_each coords) (column_under_is coords by d.column)
            ∙ tet_of_index coords (slice_index by.images (d.column / columns_each coords)) (place_under coords (slice_index_or by.perms (d.column / columns_each coords) []) (d.column % columns_each coords)) below

        index : column_under coords by d.column % columns_each coords ≡ place_under coords (slice_index_or by.perms (d.column / columns_each coords) []) (d.column % columns_each coords)
        index = ap (λ c. c % columns_each coords) (column_under_is coords by d.column)
            ∙ index_of_index coords (slice_index by.images (d.column / columns_each coords)) (place_under coords (slice_index_or by.perms (d.column / columns_each coords) []) (d.column % columns_each coords)) below

        side : stays coords (slice_index_or (inverted n by).perms (column_under coords by d.column / columns_each coords) []) (column_under coords by d.column % columns_each coords)
            ≡ stays coords (slice_index_or by.perms (d.column / columns_each coords) []) (d.column % columns_each coords)
        side =
            (λ m. stays coords (slice_index_or (inverted n by).perms (tet m) []) (index m))
            ∙ (λ m. stays coords (back_perm coords n by is (d.column / columns_each coords) lt m) (place_under coords (slice_index_or by.perms (d.column / columns_each coords) []) (d.column % columns_each coords)))
            ∙ stays_back coords (slice_index_or by.perms (d.column / columns_each coords) []) (d.column % columns_each coords) (perm_permutes n by is (d.column / columns_each coords) lt) li

        number : from_end (slice_index ys (column_under coords by d.column))
            (stays coords (slice_index_or (inverted n by).perms (column_under coords by d.column / columns_each coords) []) (column_under coords by d.column % columns_each coords))
            (from_end (slice_index xs d.column) (stays coords (slice_index_or by.perms (d.column / columns_each coords) []) (d.column % columns_each coords)) d.number) ≡ d.number
        number =
            (λ m. from_end (same_entry d.column h.column m) (side m) (from_end (slice_index xs d.column) (stays coords (slice_index_or by.perms (d.column / columns_each coords) []) (d.column % columns_each coords)) d.number))
            ∙ from_end_twice (slice_index xs d.column) (stays coords (slice_index_or by.perms (d.column / columns_each coords) []) (d.column % columns_each coords)) d.number h.number

-- The discs of a surface and of its image: the disc of the image of an arc is the image of the disc of the arc.
use Rattle.std.proofs.Common.{◌≡◌, ℕ, ◌+◌, ◌-◌, ◌/◌, ◌%◌, ◌<◌, ◌≤◌, Bool, true, false, List, [], inl, inr, refl, sym, ap, ◌∙◌, subst, arith}
use Rattle.std.specs.Prelude.{◌||◌, nat_lt, slice_index, if◌then◌else◌}
use Rattle.std.specs.List.{list_all, slice_index_or}
use Rattle.std.proofs.lemmas.Bool.{agree_below, agree_below_at, cases_eq, cases_lt, lt-ltb, le-leb, leb-true, le-ltb, or_left}
use mathlib.Core.Bool.{beq}
use Rattle.basic_lemmas.proofs.Truths.{if_true}
use Rattle.table_definitions.specs.Permutation.{IsPermutationOfFour, four, words, image}
use Rattle.table_definitions.specs.Relabelling.{Relabelling, IsRelabelling}
use Rattle.table_definitions.proofs.Carried.{image_in_range, perm_permutes}
use Rattle.table_definitions.proofs.Permutations.{by_words, bool_equal, image_below}
use Rattle.table_definitions.proofs.PermutationLaws.{images_apart}
use Rattle.table_definitions.proofs.TableLaws.{Among-four}
use Rattle.table_definitions.proofs.Tests.{list_all-among}
use Rattle.surface_definitions.specs.Coordinates.{triangles_each, before_octagons, columns, columns_each, tri_column, quad_column, keeping, octagon_arcs, clash_list}
use Rattle.surface_definitions.specs.declared.Coords.{Coords}
use Rattle.surface_definitions.specs.declared.Coords.TheVariants.{Standard, Quad, Octagon}
use Rattle.surface_definitions.specs.Pieces.{NormalDisc, Arc, arcs_around, type_in, keeps_by_zero, disc_of, looks_positive}
use Rattle.surface_definitions.proofs.ColumnCounts.{tet_of_index, index_of_index, index_below}
use Rattle.cone_definitions.specs.Surfaces.{IsAdmissible}
use Rattle.surface_laws.specs.MatchingLaws.{HasTriangles}
use Rattle.surface_laws.specs.PieceLaws.{first_nonzero}
use Rattle.surface_laws.proofs.ArcPieces.{from_end, from_end_twice, in_width, arcs_are, triangle_piece, behind_piece}
use Rattle.surface_laws.proofs.Clashes.{other_zero}
use Rattle.surface_laws.proofs.ColumnKinds.{four_triangles, triangle_place, high_behind, behind_in}
use Rattle.surface_laws.proofs.MeetingArcs.{arc_at}
use Rattle.surface_laws.proofs.PieceNumbers.{piece_at}
use Rattle.surface_equation_laws.proofs.LocalArcs.{placed}
use Rattle.surface_relabelling_laws.specs.Vectors.{place_under, column_under}
use Rattle.surface_relabelling_laws.proofs.Columns.{image_at, IsCarried, split, column_at, placed_by, image_below as column_image_below}
use Rattle.surface_relabelling_laws.proofs.Types.{IsPlaced}
use Rattle.surface_relabelling_laws.proofs.Arcs.{arcs_carried}

-- the type of the quad or octagon with index i among the columns of its tetrahedron
abbrev pub type_at : Coords → ℕ → ℕ
type_at coords i = if nat_lt i (before_octagons coords) then i - 4 else i - before_octagons coords

-- whether the image of a disc type with index i has its positive side where the disc type has it
abbrev pub stays : Coords → List ℕ → ℕ → Bool
stays coords p i = nat_lt i 4 || keeps_by_zero (type_at coords (place_under coords p i)) (image p 0)

-- the image of a disc: discs of a column are counted in the other direction where the positive side is on the other
-- side
abbrev pub disc_under : Coords → Relabelling → List ℕ → NormalDisc → NormalDisc
disc_under coords by xs d = record {
  column = column_under coords by d.column;
  number = from_end (slice_index xs d.column) (stays coords (slice_index_or by.perms (d.column / columns_each coords) []) (d.column % columns_each coords)) d.number;
}

-- the image of an arc
abbrev pub arc_under : Relabelling → Arc → Arc
arc_under by a = record {
  tet = slice_index by.images a.tet;
  face = image (slice_index_or by.perms a.tet []) a.face;
  vertex = image (slice_index_or by.perms a.tet []) a.vertex;
  place = a.place;
}

-- ---- sides

sides_test : Coords → List ℕ → ℕ → Bool
sides_test coords p i =
    nat_lt i 4 || list_all (λ v. beq (keeps_by_zero (type_at coords (place_under coords p i)) (image p v)) (beq (keeps_by_zero (type_at coords i) v) (keeps_by_zero (type_at coords (place_under coords p i)) (image p 0)))) four

all_sides : (coords : Coords) → list_all (λ p. agree_below (sides_test coords p) (λ k. true) (columns_each coords)) words ≡ true
unfolding sides_test place_under
all_sides Standard = refl
all_sides Quad = refl
all_sides Octagon = refl

-- the image of a vertex on the positive side is on the positive side if and only if the side stays
pub sides_are : (coords : Coords) (p : List ℕ) (i v : ℕ) → IsPermutationOfFour p → i < columns_each coords → 4 ≤ i → v < 4
    → keeps_by_zero (type_at coords (place_under coords p i)) (image p v) ≡ beq (keeps_by_zero (type_at coords i) v) (stays coords p i)
unfolding sides_test
sides_are coords p i v h l high lv =
    let t : sides_test coords p i ≡ true =
    agree_below_at (sides_test coords p) (λ k. true) (columns_each coords) i (by_words (λ p. agree_below (sides_test coords p) (λ k. true) (columns_each coords)) (all_sides coords) p h) l in
    let not_low : nat_lt i 4 ≡ false = le-ltb i 4 high in
    let test : ℕ → Bool = λ v. beq (keeps_by_zero (type_at coords (place_under coords p i)) (image p v)) (beq (keeps_by_zero (type_at coords i) v) (keeps_by_zero (type_at coords (place_under coords p i)) (image p 0))) in
    let all : list_all test four ≡ true = ap (λ b. b || list_all test four) (sym not_low) ∙ t in
    bool_equal (keeps_by_zero (type_at coords (place_under coords p i)) (image p v)) (beq (keeps_by_zero (type_at coords i) v) (keeps_by_zero (type_at coords (place_under coords p i)) (image p 0)))
    (list_all-among test v four all (Among-four v lv))
    ∙ ap (λ b. beq (keeps_by_zero (type_at coords i) v) (b || keeps_by_zero (type_at coords (place_under coords p i)) (image p 0))) (sym not_low)

-- counting from the one end or the other, twice
from_both : (count : ℕ) (b s : Bool) (j : ℕ) → j < count → from_end count (beq b s) j ≡ from_end count s (from_end count b j)
from_both count true true j l = refl
from_both count true false j l = refl
from_both count false true j l = refl
from_both count false false j l = sym (from_end_twice count false j l)

triangle_image : (coords : Coords) (p : List ℕ) (v : ℕ) → HasTriangles coords → v < 4 → place_under coords p v ≡ image p v
unfolding place_under
triangle_image coords p v h l = if_true (nat_lt v (triangles_each coords)) (image p v) _ (lt-ltb v (triangles_each coords) (let all = four_triangles coords h in omega arith))

module _ (coords : Coords) (triangles : HasTriangles coords) (n : ℕ) (by : Relabelling) (is : IsRelabelling n by) (xs ys : List ℕ) (carried : IsCarried coords n by xs ys)
    (admissible : IsAdmissible (clash_list coords n) xs) (admissible' : IsAdmissible (clash_list coords n) ys)
    (t f v : ℕ) (lt : t < n) (lf : f < 4) (lv : v < 4) (off : v ≡ f → ⊥) where
  abbrev p : List ℕ
  p = slice_index_or by.perms t []

  abbrev u : ℕ
  u = slice_index by.images t

  hp : IsPermutationOfFour (slice_index_or by.perms t [])
  hp = perm_permutes n by is t lt

  lu : slice_index by.images t < n
  lu = image_in_range n by is t lt

  lf' : image (slice_index_or by.perms t []) f < 4
  lf' = image_below p hp f lf

  lv' : image (slice_index_or by.perms t []) v < 4
  lv' = image_below p hp v lv

  off' : image (slice_index_or by.perms t []) v ≡ image (slice_index_or by.perms t []) f → ⊥
  off' = images_apart p v f hp lv lf off

  -- the column of the triangles
  tri_there : image_at coords by t v ≡ tri_column coords (slice_index by.images t) (image (slice_index_or by.perms t []) v)
  tri_there = ap (λ i. placed coords u i) (triangle_image coords p v triangles lv)

  tris_same : slice_index ys (tri_column coords (slice_index by.images t) (image (slice_index_or by.perms t []) v)) ≡ slice_index xs (tri_column coords t v)
  tris_same = ap (slice_index ys) (sym tri_there) ∙ carried.entries t v lt (triangle_place coords v triangles lv)

  -- the column of the further arcs, and its index
  abbrev behind : ℕ
  behind = first_nonzero xs (octagon_arcs coords t f v) (quad_column coords t (keeping v f))

  abbrev behind' : ℕ
  behind' = first_nonzero ys (octagon_arcs coords (slice_index by.images t) (image (slice_index_or by.perms t []) f) (image (slice_index_or by.perms t []) v)) (quad_column coords (slice_index by.images t) (keeping (image (slice_index_or by.perms t []) v) (image (slice_index_or by.perms t []) f)))

  abbrev index : ℕ
  index = behind % columns_each coords

  all : arcs_around coords xs t f v ≡ slice_index xs (tri_column coords t v) + slice_index xs behind
  all = arcs_are coords n xs triangles admissible t f v lt lf lv off xs (λ c z. z)

  all' : arcs_around coords ys (slice_index by.images t) (image (slice_index_or by.perms t []) f) (image (slice_index_or by.perms t []) v)
      ≡ slice_index ys (tri_column coords (slice_index by.images t) (image (slice_index_or by.perms t []) v)) + slice_index ys behind'
  all' = arcs_are coords n ys triangles admissible' u (image p f) (image p v) lu lf' lv' off' ys (λ c z. z)

  as_many : slice_index ys behind' ≡ slice_index xs behind
  as_many = let e = arcs_carried coords triangles n by is xs ys carried t f v lt lf lv off in let a = all in let a' = all' in let s = tris_same in omega arith

  here : placed coords t (behind % columns_each coords) ≡ behind
  here = ap (λ m. placed coords m (behind % columns_each coords)) (sym (behind_in coords xs t f v triangles lf lv off)) ∙ split coords behind

  low_index : behind % columns_each coords < columns_each coords
  low_index = index_below coords behind

  high : 4 ≤ behind % columns_each coords
  high = high_behind coords xs t f v triangles lf lv off

  moved : slice_index ys (image_at coords by t (behind % columns_each coords)) ≡ slice_index xs behind
  moved = carried.entries t index lt low_index ∙ ap (slice_index xs) here

  -- the image of the column is the column of the further arcs of the image
  behind_image : 0 < slice_index xs behind → behind' ≡ image_at coords by t (behind % columns_each coords)
  behind_image some = elim (cases_eq (image_at coords by t index) behind') [
    | inl e ↦ sym e
    | inr ne ↦ absurd (let z : slice_index ys behind' ≡ 0 =
        other_zero coords n ys admissible' (image_at coords by t index) behind' ne (column_image_below coords n by is t index lt low_index) inside
        (tet_of_index coords u (place_under coords p index) pl.below ∙ sym (behind_in coords ys u (image p f) (image p v) triangles lf' lv' off'))
        (subst (λ m. triangles_each coords ≤ m) (sym (index_of_index coords u (place_under coords p index) pl.below)) (leb-true (triangles_each coords) (place_under coords p index) (pl.quad ∙ le-leb (triangles_each coords) index (let h = high in let q = four_of in omega arith))))
        (let h = high_behind coords ys u (image p f) (image p v) triangles lf' lv' off' in let q = four_of in omega arith)
        (subst (λ m. 0 < m) (sym moved) some) in let e = as_many in omega arith)
  ]
    where
      four_of : triangles_each coords ≡ 4
      four_of = four_triangles coords triangles

      pl : IsPlaced coords (slice_index_or by.perms t []) (behind % columns_each coords)
      pl = placed_by coords n by is t index lt low_index

      inside : behind' < columns coords n
      inside = subst (λ m. behind' < m) carried.to_width (in_width ys behind' 0 (let e = as_many in omega arith))

  -- the disc of an arc
  pub disc_image : (j : ℕ) → j < arcs_around coords xs t f v → disc_of coords ys (arc_under by (arc_at t f v j)) ≡ disc_under coords by xs (disc_of coords xs (arc_at t f v j))
  disc_image j l = elim (cases_lt j (slice_index xs (tri_column coords t v))) [
    | inl low ↦ triangle_piece coords n ys triangles admissible' u (image p f) (image p v) lu lf' lv' off' j (subst (λ m. j < m) (sym tris_same) low)
        ∙ sym (ap (disc_under coords by xs) (triangle_piece coords n xs triangles admissible t f v lt lf lv off j low) ∙ of_triangle)
    | inr more ↦ further (j - slice_index xs (tri_column coords t v)) (let w : slice_index xs (tri_column coords t v) + (j - slice_index xs (tri_column coords t v)) ≡ j = omega arith in w) (let a = all in omega arith)
  ]
    where
      of_triangle : disc_under coords by xs (piece_at (tri_column coords t v) j) ≡ piece_at (tri_column coords (slice_index by.images t) (image (slice_index_or by.perms t []) v)) j
      of_triangle =
          let column = column_at coords by t v (triangle_place coords v triangles lv) ∙ tri_there in
          let index : tri_column coords t v % columns_each coords ≡ v = index_of_index coords t v (triangle_place coords v triangles lv) in
          let side : stays coords (slice_index_or by.perms (tri_column coords t v / columns_each coords) []) (tri_column coords t v % columns_each coords) ≡ true =
          or_left (nat_lt (tri_column coords t v % columns_each coords) 4) _ (lt-ltb (tri_column coords t v % columns_each coords) 4 (subst (λ m. m < 4) (sym index) lv)) in
          λ m. piece_at (column m) (from_end (slice_index xs (tri_column coords t v)) (side m) j)

      further : (k : ℕ) → slice_index xs (tri_column coords t v) + k ≡ j → k < slice_index xs behind → disc_of coords ys (arc_under by (arc_at t f v j)) ≡ disc_under coords by xs (disc_of coords xs (arc_at t f v j))
      further k e lk =
          let some : 0 < slice_index xs behind = omega arith in
          let col = behind_image some in
          let e' : slice_index ys (tri_column coords u (image p v)) + k ≡ j = ap (λ m. m + k) tris_same ∙ e in
          let index' : behind' % columns_each coords ≡ place_under coords p index = ap (λ c. c % columns_each coords) col ∙ index_of_index coords u (place_under coords p index) (placed_by coords n by is t index lt low_index).below in
          let sides : keeps_by_zero (type_in coords behind') (image p v) ≡ beq (keeps_by_zero (type_in coords behind) v) (stays coords p index) =
          ap (λ i. keeps_by_zero (type_at coords i) (image p v)) index' ∙ sides_are coords p index v hp low_index high lv in
          let tet : behind / columns_each coords ≡ t = behind_in coords xs t f v triangles lf lv off in
          ap (λ i. disc_of coords ys (arc_at u (image p f) (image p v) i)) (sym e')
          ∙ behind_piece coords n ys triangles admissible' u (image p f) (image p v) lu lf' lv' off' k
          ∙ (λ m. piece_at (col m) (from_end (as_many m) (sides m) k))
          ∙ (λ m. piece_at (image_at coords by t index) (from_both (slice_index xs behind) (keeps_by_zero (type_in coords behind) v) (stays coords p index) k lk m))
          ∙ (λ m. piece_at (sym (column_at coords by t index low_index) m) (from_end (slice_index xs behind) (stays coords (slice_index_or by.perms (sym tet m) []) index) (from_end (slice_index xs behind) (keeps_by_zero (type_in coords behind) v) k)))
          ∙ (λ m. piece_at (column_under coords by (here m)) (from_end (slice_index xs behind) (stays coords (slice_index_or by.perms (behind / columns_each coords) []) index) (from_end (slice_index xs behind) (keeps_by_zero (type_in coords behind) v) k)))
          ∙ sym (ap (disc_under coords by xs) (behind_piece coords n xs triangles admissible t f v lt lf lv off k))
          ∙ ap (λ i. disc_under coords by xs (disc_of coords xs (arc_at t f v i))) e

  -- whether the disc of an arc looks at the vertex of the arc with its positive side
  pub looks_image : (j : ℕ) → j < arcs_around coords xs t f v
      → looks_positive coords ys (arc_under by (arc_at t f v j))
      ≡ beq (looks_positive coords xs (arc_at t f v j)) (stays coords (slice_index_or by.perms ((disc_of coords xs (arc_at t f v j)).column / columns_each coords) []) ((disc_of coords xs (arc_at t f v j)).column % columns_each coords))
  looks_image j l = elim (cases_lt j (slice_index xs (tri_column coords t v))) [
    | inl low ↦ (let here : looks_positive coords xs (arc_at t f v j) ≡ true = or_left (nat_lt j (slice_index xs (tri_column coords t v))) _ (lt-ltb j (slice_index xs (tri_column coords t v)) low) in
        let there : looks_positive coords ys (arc_under by (arc_at t f v j)) ≡ true =
        or_left (nat_lt j (slice_index ys (tri_column coords u (image p v)))) _ (lt-ltb j (slice_index ys (tri_column coords u (image p v))) (subst (λ m. j < m) (sym tris_same) low)) in
        let column : (disc_of coords xs (arc_at t f v j)).column ≡ tri_column coords t v = ap (λ (d : NormalDisc). d.column) (triangle_piece coords n xs triangles admissible t f v lt lf lv off j low) in
        let index : tri_column coords t v % columns_each coords ≡ v = index_of_index coords t v (triangle_place coords v triangles lv) in
        let side : stays coords (slice_index_or by.perms (tri_column coords t v / columns_each coords) []) (tri_column coords t v % columns_each coords) ≡ true =
        or_left (nat_lt (tri_column coords t v % columns_each coords) 4) _ (lt-ltb (tri_column coords t v % columns_each coords) 4 (subst (λ m. m < 4) (sym index) lv)) in
        there ∙ (λ m. beq (sym here m) (sym side m))
        ∙ (λ m. beq (looks_positive coords xs (arc_at t f v j)) (stays coords (slice_index_or by.perms (sym column m / columns_each coords) []) (sym column m % columns_each coords))))
    | inr more ↦ further (j - slice_index xs (tri_column coords t v)) (let w : slice_index xs (tri_column coords t v) + (j - slice_index xs (tri_column coords t v)) ≡ j = omega arith in w) (let a = all in omega arith)
  ]
    where
      further : (k : ℕ) → slice_index xs (tri_column coords t v) + k ≡ j → k < slice_index xs behind
          → looks_positive coords ys (arc_under by (arc_at t f v j))
          ≡ beq (looks_positive coords xs (arc_at t f v j)) (stays coords (slice_index_or by.perms ((disc_of coords xs (arc_at t f v j)).column / columns_each coords) []) ((disc_of coords xs (arc_at t f v j)).column % columns_each coords))
      further k e lk =
          let some : 0 < slice_index xs behind = omega arith in
          let col = behind_image some in
          let index' : behind' % columns_each coords ≡ place_under coords p index = ap (λ c. c % columns_each coords) col ∙ index_of_index coords u (place_under coords p index) (placed_by coords n by is t index lt low_index).below in
          let sides : keeps_by_zero (type_in coords behind') (image p v) ≡ beq (keeps_by_zero (type_in coords behind) v) (stays coords p index) =
          ap (λ i. keeps_by_zero (type_at coords i) (image p v)) index' ∙ sides_are coords p index v hp low_index high lv in
          let tet : behind / columns_each coords ≡ t = behind_in coords xs t f v triangles lf lv off in
          let none : nat_lt j (slice_index xs (tri_column coords t v)) ≡ false = le-ltb j (slice_index xs (tri_column coords t v)) (omega arith) in
          let none' : nat_lt j (slice_index ys (tri_column coords u (image p v))) ≡ false = le-ltb j (slice_index ys (tri_column coords u (image p v))) (let q = tris_same in omega arith) in
          let here : looks_positive coords xs (arc_at t f v j) ≡ keeps_by_zero (type_in coords behind) v = ap (λ b. b || keeps_by_zero (type_in coords behind) v) none in
          let there : looks_positive coords ys (arc_under by (arc_at t f v j)) ≡ keeps_by_zero (type_in coords behind') (image p v) = ap (λ b. b || keeps_by_zero (type_in coords behind') (image p v)) none' in
          let column : (disc_of coords xs (arc_at t f v j)).column ≡ behind =
          ap (λ i. (disc_of coords xs (arc_at t f v i)).column) (sym e) ∙ ap (λ (d : NormalDisc). d.column) (behind_piece coords n xs triangles admissible t f v lt lf lv off k) in
          there ∙ sides ∙ (λ m. beq (sym here m) (stays coords (slice_index_or by.perms (sym tet m) []) index))
          ∙ (λ m. beq (looks_positive coords xs (arc_at t f v j)) (stays coords (slice_index_or by.perms (sym column m / columns_each coords) []) (sym column m % columns_each coords)))

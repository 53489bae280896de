-- Vectors of a table and of its relabelling that count the same discs.
use Rattle.std.proofs.Common.{◌≡◌, ℕ, ◌+◌, ◌*◌, ◌/◌, ◌%◌, ◌<◌, List, [], length, get_or, sym, ap, ◌∙◌, subst, arith}
use Rattle.std.specs.Prelude.{◌==◌, slice_index}
use Rattle.std.specs.List.{slice_index_or, position_or_len}
use Rattle.std.proofs.Math.Nat.{div-add-mod}
use Rattle.std.proofs.lemmas.Bool.{eq-eqb, ne_eqb}
use Rattle.std.proofs.lemmas.List.FromFn.{get_or-map-range_with_len, length-map-range_with_len, get_or-range_with_len, length-range_with_len}
use Rattle.std.proofs.lemmas.List.Sums.{position_or_len_is}
use Rattle.cone_definitions.proofs.Entries.{same_vectors, each_column, entry_past}
use Rattle.table_definitions.specs.Lists.{below}
use Rattle.table_definitions.specs.Permutation.{IsPermutationOfFour, inverse}
use Rattle.table_definitions.specs.Table.{Gluing}
use Rattle.table_definitions.specs.Relabelling.{Relabelling, IsRelabelling}
use Rattle.table_definitions.proofs.Carried.{image_in_range, images_apart, comes_from, perm_permutes}
use Rattle.table_definitions.proofs.Permutations.{inverse_permutes}
use Rattle.signature_laws.specs.Between.{inverted}
use Rattle.signature_laws.proofs.Back.{inverted_stands}
use Rattle.surface_definitions.specs.Coordinates.{columns, columns_each}
use Rattle.surface_definitions.specs.declared.Coords.{Coords}
use Rattle.surface_definitions.proofs.ColumnCounts.{tet_of_index, index_of_index, column_of_index, tet_below, index_below}
use Rattle.surface_equation_laws.proofs.LocalArcs.{placed}
use Rattle.surface_relabelling_laws.specs.Vectors.{place_under, column_under, relabelled_vector}
use Rattle.surface_relabelling_laws.proofs.Types.{IsPlaced, placed_is}

-- the column of the image of the disc type with index i of tetrahedron t
abbrev pub image_at : Coords → Relabelling → ℕ → ℕ → ℕ
image_at coords by t i = columns_each coords * slice_index by.images t + place_under coords (slice_index_or by.perms t []) i

-- ys counts each disc type of the relabelled table as xs counts it
pub record IsCarried (coords : Coords) (n : ℕ) (by : Relabelling) (xs ys : List ℕ) : Type 0 where
  pub from_width : length xs ≡ columns coords n
  pub to_width : length ys ≡ columns coords n
  pub entries : (t i : ℕ) → t < n → i < columns_each coords → slice_index ys (image_at coords by t i) ≡ slice_index xs (placed coords t i)

pub column_at : (coords : Coords) (by : Relabelling) (t i : ℕ) → i < columns_each coords → column_under coords by (placed coords t i) ≡ image_at coords by t i
unfolding column_under
column_at coords by t i l = (λ j. image_at coords by (tet_of_index coords t i l j) (index_of_index coords t i l j))

pub relabelled_width : (coords : Coords) (by : Relabelling) (xs : List ℕ) → length (relabelled_vector coords by xs) ≡ length xs
unfolding relabelled_vector
relabelled_width coords by xs = length-map-range_with_len (λ c. slice_index xs (position_or_len (λ d. column_under coords by d == c) (below (length xs)))) 0 (length xs)

-- a column by its tetrahedron and index
pub split : (coords : Coords) (c : ℕ) → placed coords (c / columns_each coords) (c % columns_each coords) ≡ c
split coords c = div-add-mod c (columns_each coords)

module _ (coords : Coords) (n : ℕ) (by : Relabelling) (is : IsRelabelling n by) where
  pub placed_by : (t i : ℕ) → t < n → i < columns_each coords → IsPlaced coords (slice_index_or by.perms t []) i
  placed_by t i lt li = placed_is coords (slice_index_or by.perms t []) i (perm_permutes n by is t lt) li

  pub image_below : (t i : ℕ) → t < n → i < columns_each coords → image_at coords by t i < columns coords n
  image_below t i lt li = column_of_index coords n (slice_index by.images t) (place_under coords (slice_index_or by.perms t []) i) (image_in_range n by is t lt) (placed_by t i lt li).below

  -- different columns have different images
  pub one_column : (t i u j : ℕ) → t < n → i < columns_each coords → u < n → j < columns_each coords → image_at coords by t i ≡ image_at coords by u j → placed coords t i ≡ placed coords u j
  one_column t i u j lt li lu lj e =
      let a = (placed_by t i lt li).below in
      let b = (placed_by u j lu lj).below in
      let p : List ℕ = slice_index_or by.perms t [] in
      let q : List ℕ = slice_index_or by.perms u [] in
      let tets : t ≡ u = images_apart n by is t u lt lu
      (sym (tet_of_index coords (slice_index by.images t) (place_under coords p i) a) ∙ ap (λ c. c / columns_each coords) e ∙ tet_of_index coords (slice_index by.images u) (place_under coords q j) b) in
      let places : place_under coords p i ≡ place_under coords q j =
      sym (index_of_index coords (slice_index by.images t) (place_under coords p i) a) ∙ ap (λ c. c % columns_each coords) e ∙ index_of_index coords (slice_index by.images u) (place_under coords q j) b in
      let same : i ≡ j = sym (placed_by t i lt li).back ∙ (λ k. place_under coords (inverse (slice_index_or by.perms (tets k) [])) (places k)) ∙ (placed_by u j lu lj).back in
      λ k. placed coords (tets k) (same k)

  -- each column is the image of one
  pub from_column : (c : ℕ) → c < columns coords n → (t : ℕ) × (i : ℕ) × (t < n) × (i < columns_each coords) × (image_at coords by t i ≡ c)
  from_column c l =
      let f = comes_from n by is (c / columns_each coords) (tet_below coords n c l) in
      let p : List ℕ = slice_index_or by.perms f.0 [] in
      let h : IsPermutationOfFour p = perm_permutes n by is f.0 f.1 in
      let low = index_below coords c in
      let back = placed_is coords (inverse p) (c % columns_each coords) (inverse_permutes p h) low in (
        f.0,
        place_under coords (inverse p) (c % columns_each coords),
        f.1,
        back.below,
        (λ k. placed coords (f.2 k) ((placed_is coords p (c % columns_each coords) h low).there k)) ∙ split coords c,
      )

  -- the inverse maps the image of t back to t
  back_tet : (t : ℕ) → t < n → slice_index (inverted n by).images (slice_index by.images t) ≡ t
  back_tet t l = ap (λ (g : Gluing). g.tet) (inverted_stands n by is t l)

  pub back_perm : (t : ℕ) → t < n → slice_index_or (inverted n by).perms (slice_index by.images t) [] ≡ inverse (slice_index_or by.perms t [])
  back_perm t l = ap (λ (g : Gluing). g.perm) (inverted_stands n by is t l)

  pub image_back : (t i : ℕ) → t < n → i < columns_each coords → image_at coords (inverted n by) (slice_index by.images t) (place_under coords (slice_index_or by.perms t []) i) ≡ placed coords t i
  image_back t i lt li =
      (λ k. columns_each coords * back_tet t lt k + place_under coords (back_perm t lt k) (place_under coords (slice_index_or by.perms t []) i))
      ∙ ap (placed coords t) (placed_by t i lt li).back

  -- a vector that is carried by the relabelling is carried back by the inverse
  pub carried_back : (xs ys : List ℕ) → IsCarried coords n by xs ys → IsCarried coords n (inverted n by) ys xs
  carried_back xs ys c = record { from_width = c.to_width; to_width = c.from_width; entries = entries }
    where
      entries : (u j : ℕ) → u < n → j < columns_each coords → slice_index xs (image_at coords (inverted n by) u j) ≡ slice_index ys (placed coords u j)
      entries u j lu lj =
          let f = from_column (placed coords u j) (column_of_index coords n u j lu lj) in
          let a = (placed_by f.0 f.1 f.2 f.3).below in
          let tet : slice_index by.images f.0 ≡ u =
          sym (tet_of_index coords (slice_index by.images f.0) (place_under coords (slice_index_or by.perms f.0 []) f.1) a) ∙ ap (λ c. c / columns_each coords) f.4 ∙ tet_of_index coords u j lj in
          let place : place_under coords (slice_index_or by.perms f.0 []) f.1 ≡ j =
          sym (index_of_index coords (slice_index by.images f.0) (place_under coords (slice_index_or by.perms f.0 []) f.1) a) ∙ ap (λ c. c % columns_each coords) f.4 ∙ index_of_index coords u j lj in
          (λ k. slice_index xs (image_at coords (inverted n by) (sym tet k) (sym place k))) ∙ ap (slice_index xs) (image_back f.0 f.1 f.2 f.3) ∙ sym (c.entries f.0 f.1 f.2 f.3) ∙ ap (slice_index ys) f.4

  pub carried_again : (xs ys : List ℕ) → IsCarried coords n (inverted n by) ys xs → IsCarried coords n by xs ys
  carried_again xs ys c = record {
    from_width = c.to_width;
    to_width = c.from_width;
    entries = λ t i lt li. sym (c.entries (slice_index by.images t) (place_under coords (slice_index_or by.perms t []) i) (image_in_range n by is t lt) (placed_by t i lt li).below) ∙ ap (slice_index xs) (image_back t i lt li);
  }

  -- one vector at most is carried to a vector, and from one
  pub one_image : (xs ys zs : List ℕ) → IsCarried coords n by xs ys → IsCarried coords n by xs zs → ys ≡ zs
  one_image xs ys zs a b = same_vectors ys zs (a.to_width ∙ sym b.to_width)
      (each_column (columns coords n) (λ c. slice_index ys c ≡ slice_index zs c)
      (λ c l. let f = from_column c l in subst (λ m. slice_index ys m ≡ slice_index zs m) f.4 (a.entries f.0 f.1 f.2 f.3 ∙ sym (b.entries f.0 f.1 f.2 f.3)))
      (λ c l. entry_past ys (columns coords n) c a.to_width l ∙ sym (entry_past zs (columns coords n) c b.to_width l)))

  pub one_source : (xs ys zs : List ℕ) → IsCarried coords n by xs zs → IsCarried coords n by ys zs → xs ≡ ys
  one_source xs ys zs a b = same_vectors xs ys (a.from_width ∙ sym b.from_width)
      (each_column (columns coords n) (λ c. slice_index xs c ≡ slice_index ys c)
      (λ c l. subst (λ m. slice_index xs m ≡ slice_index ys m) (split coords c)
      (sym (a.entries (c / columns_each coords) (c % columns_each coords) (tet_below coords n c l) (index_below coords c)) ∙ b.entries (c / columns_each coords) (c % columns_each coords) (tet_below coords n c l) (index_below coords c)))
      (λ c l. entry_past xs (columns coords n) c a.from_width l ∙ sym (entry_past ys (columns coords n) c b.from_width l)))

  -- the relabelled vector is the one to which a vector is carried
  pub relabelled_is : (xs : List ℕ) → length xs ≡ columns coords n → IsCarried coords n by xs (relabelled_vector coords by xs)
  unfolding relabelled_vector
  relabelled_is xs w = record { from_width = w; to_width = length-map-range_with_len (λ c. slice_index xs (before c)) 0 (length xs) ∙ w; entries = entries }
    where
      before : ℕ → ℕ
      before c = position_or_len (λ d. column_under coords by d == c) (below (length xs))

      first : (t i : ℕ) → t < n → i < columns_each coords → before (image_at coords by t i) ≡ placed coords t i
      first t i lt li =
          position_or_len_is (λ d. column_under coords by d == image_at coords by t i) (below (length xs)) (placed coords t i) 0
          (let l = inside in omega (arith, l, length-range_with_len 0 (length xs)))
          (λ k m. (let lk : k < length xs = omega (arith, inside, m) in
          let e : get_or (below (length xs)) k 0 ≡ k = get_or-range_with_len 0 (length xs) k 0 lk ∙ omega arith in
          ap (λ d. column_under coords by d == image_at coords by t i) e ∙ ne_eqb (column_under coords by k) (image_at coords by t i) (λ s. not_same k lk m s)))
          (λ m. (let e : get_or (below (length xs)) (placed coords t i) 0 ≡ placed coords t i = get_or-range_with_len 0 (length xs) (placed coords t i) 0 inside ∙ omega arith in
          ap (λ d. column_under coords by d == image_at coords by t i) e ∙ eq-eqb (column_under coords by (placed coords t i)) (image_at coords by t i) (column_at coords by t i li)))
        where
          inside : placed coords t i < length xs
          inside = subst (λ m. placed coords t i < m) (sym w) (column_of_index coords n t i lt li)

          not_same : (k : ℕ) → k < length xs → k < placed coords t i → column_under coords by k ≡ image_at coords by t i → ⊥
          not_same k lk m s =
              let lc : k < columns coords n = subst (λ m. k < m) w lk in
              let lk' = index_below coords k in
              let e : placed coords (k / columns_each coords) (k % columns_each coords) ≡ placed coords t i = one_column (k / columns_each coords) (k % columns_each coords) t i (tet_below coords n k lc) lk' lt li
              (sym (column_at coords by (k / columns_each coords) (k % columns_each coords) lk') ∙ ap (column_under coords by) (split coords k) ∙ s) in
              let f : k ≡ placed coords t i = sym (split coords k) ∙ e in
              omega arith

      entries : (t i : ℕ) → t < n → i < columns_each coords → slice_index (relabelled_vector coords by xs) (image_at coords by t i) ≡ slice_index xs (placed coords t i)
      entries t i lt li =
          get_or-map-range_with_len (λ c. slice_index xs (before c)) 0 (length xs) (image_at coords by t i) (image_at coords by t i) 0 (subst (λ m. image_at coords by t i < m) (sym w) (image_below t i lt li)) (omega arith)
          ∙ ap (slice_index xs) (first t i lt li)

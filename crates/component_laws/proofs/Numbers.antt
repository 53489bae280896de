-- Ascending numbers, their indices, and rows that are renumbered by them.
use Rattle.std.proofs.Common.{◌≡◌, ℕ, ◌<◌, ◌≤◌, inl, inr, true, List, [], length, map, get_or, Contains, None, option_map, slice_index, slice_index_or, subst, sym, ap, refl, ◌∙◌, arith}
use Rattle.std.specs.Prelude.{◌==◌, nat_eq}
use Rattle.std.specs.List.{IsDistinct, list_any}
use Rattle.std.proofs.lemmas.Bool.{cases_order, eqb-true, eq-eqb}
use Rattle.std.proofs.lemmas.List.{get_or-map, get_or_default, length-map}
use Rattle.std.proofs.lemmas.List.FromFn.{get_or-map-range_with_len, length-map-range_with_len}
use Rattle.std.proofs.lemmas.List.Sums.{position_or_len_is}
use Rattle.std.proofs.lemmas.List.Folds.{Any-from_list_any}
use Rattle.std.proofs.lemmas.Map.Steps.{length-le_from_distinct_below}
use Rattle.std.proofs.Math.ListN.{get_or-map as entry-map}
use Rattle.basic_lemmas.proofs.Numbers.{less_unequal}
use Rattle.basic_lemmas.proofs.Members.{Ascends}
use Rattle.table_definitions.specs.Lists.{below}
use Rattle.table_definitions.specs.Table.{Row, glue}
use Rattle.table_definitions.proofs.Bijections.{IsDistinct-from_before}
use Rattle.component_definitions.specs.Parts.{place_in, renumbered, rows_of}

-- a number occurs at one index
pub stands_once : (numbers : List ℕ) → Ascends numbers → (i j : ℕ) → i < length numbers → j < length numbers → slice_index numbers i ≡ slice_index numbers j → i ≡ j
stands_once numbers h i j li lj e = elim (cases_order i j) [
  | inl same ↦ same
  | inr (inl less) ↦ let l : slice_index numbers i < slice_index numbers j = h i j 0 less lj in absurd (omega arith)
  | inr (inr more) ↦ let l : slice_index numbers j < slice_index numbers i = h j i 0 more li in absurd (omega arith)
]

-- the search for a number finds this index
pub place_at : (numbers : List ℕ) → Ascends numbers → (k : ℕ) → k < length numbers → place_in numbers (slice_index numbers k) ≡ k
place_at numbers h k l = position_or_len_is (λ u. u == slice_index numbers k) numbers k 0 (omega arith) (λ i less. less_unequal (slice_index numbers i) (slice_index numbers k) (h i k 0 less l))
    (λ _. eq-eqb (slice_index numbers k) (slice_index numbers k) refl)

pub entry_of : (numbers : List ℕ) (t : ℕ) (c : Contains numbers t) → slice_index numbers c.0 ≡ t
entry_of numbers t c = get_or_default numbers c.0 0 t c.1 ∙ c.2

pub place_of : (numbers : List ℕ) → Ascends numbers → (t : ℕ) → Contains numbers t → (place_in numbers t < length numbers) × (slice_index numbers (place_in numbers t) ≡ t)
place_of numbers h t c = (subst (λ k. k < length numbers) (sym same) c.1, ap (slice_index numbers) same ∙ entry_of numbers t c)
  where
    same : place_in numbers t ≡ c.0
    same = ap (place_in numbers) (sym (entry_of numbers t c)) ∙ place_at numbers h c.0 c.1

-- if f is injective below n, with values below m, n is at most m
pub fits : (n m : ℕ) (f : ℕ → ℕ) → ((i : ℕ) → i < n → f i < m) → ((i j : ℕ) → i < n → j < n → f i ≡ f j → i ≡ j) → n ≤ m
fits n m f small separate = let l : length (map f (below n)) ≤ m = length-le_from_distinct_below (map f (below n)) m distinct bounded in omega (arith, l, long)
  where
    long : length (map f (below n)) ≡ n
    long = length-map-range_with_len f 0 n

    at : (i : ℕ) → i < n → get_or (map f (below n)) i 0 ≡ f i
    at i l = get_or-map-range_with_len f 0 n i i 0 l (omega arith)

    distinct : IsDistinct nat_eq (map f (below n))
    distinct = IsDistinct-from_before (map f (below n)) (λ i j less l e. let m : j < n = omega (arith, long) in let k : i < n = omega arith in
        let same : i ≡ j = separate i j k m (sym (at i k) ∙ e ∙ at j m) in absurd (omega arith))

    bounded : (q : ℕ) → list_any (nat_eq q) (map f (below n)) ≡ true → q < m
    bounded q e = found (Any-from_list_any (nat_eq q) (map f (below n)) e)
      where
        found : (k : ℕ) × (y : ℕ) × (k < length (map f (below n))) × (get_or (map f (below n)) k y ≡ y) × (nat_eq q y ≡ true) → q < m
        found (k, y, l, s, t) = let lk : k < n = omega (arith, long) in let b : f k < m = small k lk in
            let v : q ≡ y = eqb-true q y t in let w : y ≡ f k = sym s ∙ get_or_default (map f (below n)) k y 0 l ∙ at k lk in omega arith

-- ---- renumbered rows

pub glue-rows_of : (rows : List Row) (numbers : List ℕ) (k f : ℕ) → k < length numbers →
    glue (rows_of rows numbers) (record { tet = k; face = f }) ≡ option_map (renumbered numbers) (glue rows (record { tet = slice_index numbers k; face = f }))
glue-rows_of rows numbers k f l = ap (λ (row : Row). slice_index_or row f None) (get_or-map (λ t. map (option_map (renumbered numbers)) (slice_index_or rows t [])) numbers k 0 [] l)
    ∙ entry-map (option_map (renumbered numbers)) (slice_index_or rows (slice_index numbers k) []) f None

pub length-rows_of : (rows : List Row) (numbers : List ℕ) → length (rows_of rows numbers) ≡ length numbers
length-rows_of rows numbers = length-map numbers (λ t. map (option_map (renumbered numbers)) (slice_index_or rows t []))

pub length-row_of : (rows : List Row) (numbers : List ℕ) (k : ℕ) → k < length numbers → length (slice_index_or (rows_of rows numbers) k []) ≡ length (slice_index_or rows (slice_index numbers k) [])
length-row_of rows numbers k l = ap length (get_or-map (λ t. map (option_map (renumbered numbers)) (slice_index_or rows t [])) numbers k 0 [] l)
    ∙ length-map (slice_index_or rows (slice_index numbers k) []) (option_map (renumbered numbers))

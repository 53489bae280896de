-- Of more than n numbers below n two are equal.
use Rattle.std.proofs.Common.{◌≡◌, ◌≢◌, ℕ, zero, suc, ◌<◌, ◌≤◌, ◌⊎◌, inl, inr, List, [], ◌∷◌, length, slice_index, All, AllPairs, arith}
use Rattle.std.specs.List.{slice_index_or}
use Rattle.std.proofs.lemmas.Bool.{cases_eq, eqb-true}
use Rattle.std.proofs.lemmas.Map.Steps.{length-le_from_distinct_below}
use Rattle.std.proofs.lemmas.Map.Made.{IsDistinct-from_AllPairs}
use Rattle.std.proofs.lemmas.Map.Views.{Contains-from_any}
use Rattle.std.proofs.lemmas.Bool.Decides.{Decides-eqb}
use Rattle.std.proofs.lemmas.List.Elements.{All-contains}
use Rattle.table_walk_laws.specs.Laws.{HasRepeat}

pub distinct_below : (n : ℕ) (xs : List ℕ) → All (λ x. x < n) xs → AllPairs (λ x y. x ≢ y) xs → length xs ≤ n
distinct_below n xs below distinct = length-le_from_distinct_below xs n (IsDistinct-from_AllPairs Decides-eqb xs distinct)
    (λ q any. All-contains (λ x. x < n) xs q below (Contains-from_any eqb-true q xs any))

-- a number occurs in a list, or differs from each of its numbers
found_or_not : (x : ℕ) (xs : List ℕ) → ((k : ℕ) × (k < length xs) × (x ≡ slice_index xs k)) ⊎ ((k d : ℕ) → k < length xs → x ≢ slice_index_or xs k d)
found_or_not x [] = inr (λ k d h. absurd (omega arith))
found_or_not x (y ∷ ys) = elim (cases_eq x y) [
  | inl e ↦ let l : 0 < length (y ∷ ys) = omega arith in inl (0, l, e)
  | inr ne ↦ elim (found_or_not x ys) [
    | inl f ↦ let l : suc f.0 < length (y ∷ ys) = omega (arith, f.1) in inl (suc f.0, l, f.2)
    | inr none ↦ inr (beyond ne none)
  ]
]
  where
    beyond : x ≢ y → ((k d : ℕ) → k < length ys → x ≢ slice_index_or ys k d) → (k d : ℕ) → k < length (y ∷ ys) → x ≢ slice_index_or (y ∷ ys) k d
    beyond ne none zero d h = ne
    beyond ne none (suc k) d h = none k d (omega arith)

pub repeats_or_not : (xs : List ℕ) → HasRepeat xs ⊎ AllPairs (λ x y. x ≢ y) xs
repeats_or_not [] = inr (λ i j d l h. absurd (omega arith))
repeats_or_not (x ∷ xs) = elim (found_or_not x xs) [
  | inl f ↦ inl (record { i = 0; j = suc f.0; before = omega arith; within = omega (arith, f.1); same = f.2 })
  | inr none ↦ elim (repeats_or_not xs) [
    | inl r ↦ inl (record { i = suc r.i; j = suc r.j; before = omega (arith, r.before); within = omega (arith, r.within); same = r.same })
    | inr separate ↦ inr (all_apart none separate)
  ]
]
  where
    all_apart : ((k d : ℕ) → k < length xs → x ≢ slice_index_or xs k d) → AllPairs (λ a b. a ≢ b) xs → AllPairs (λ a b. a ≢ b) (x ∷ xs)
    all_apart none separate zero zero d l h = absurd (omega arith)
    all_apart none separate zero (suc j) d l h = none j d (omega arith)
    all_apart none separate (suc i) zero d l h = absurd (omega arith)
    all_apart none separate (suc i) (suc j) d l h = separate i j d (omega arith) (omega arith)

pub pigeonhole_lem : (n : ℕ) (xs : List ℕ) → All (λ x. x < n) xs → n < length xs → HasRepeat xs
pigeonhole_lem n xs below more = elim (repeats_or_not xs) [
  | inl r ↦ r
  | inr separate ↦ absurd (let l : length xs ≤ n = distinct_below n xs below separate in omega arith)
]

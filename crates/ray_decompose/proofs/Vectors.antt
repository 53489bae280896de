-- Vectors and terms by their entries.
use Rattle.std.proofs.Common.{◌≡◌, ℕ, ◌*◌, ◌-◌, ◌<◌, [], ◌∷◌, ◌++◌, ◌+◌, ◌≤◌, ap, ap₂, inl, inr, subst, List, take, drop, map, length, slice_index, slice_index_or, sym, ◌∙◌, arith}
use Rattle.std.proofs.lemmas.List.{length-map, get_or-map, ext_get_or, take-append-le, take_all, get_or_past}
use Rattle.std.proofs.lemmas.Bool.{cases_eq, cases_lt}
use Rattle.cone_definitions.specs.Vectors.{multiple}
use Rattle.cone_definitions.proofs.Entries.{length-multiple, entry-multiple}
use Rattle.sum_definitions.specs.Sums.{Term, repeated, difference}
use Rattle.sum_laws.proofs.Turns.{length-difference, entry-difference}

pub is_difference : (rest r v : List ℕ) (q p : ℕ) → length r ≡ length rest → length v ≡ length r →
    ((k : ℕ) → k < length rest → slice_index rest k ≡ q * slice_index r k - p * slice_index v k) → rest ≡ difference (multiple q r) (multiple p v)
is_difference rest r v q p same widths h = ext_get_or 0 rest (difference (multiple q r) (multiple p v)) lengths (λ k l. h k l ∙ sym (entry k))
  where
    both : length (multiple q r) ≡ length (multiple p v)
    both = length-multiple q r ∙ sym (length-multiple p v ∙ widths)

    lengths : length rest ≡ length (difference (multiple q r) (multiple p v))
    lengths = sym (length-difference (multiple q r) (multiple p v) both ∙ length-multiple q r ∙ same)

    entry : (k : ℕ) → slice_index (difference (multiple q r) (multiple p v)) k ≡ q * slice_index r k - p * slice_index v k
    entry k = let e : slice_index (difference (multiple q r) (multiple p v)) k ≡ slice_index (multiple q r) k - slice_index (multiple p v) k = entry-difference (multiple q r) (multiple p v) both k in
        let a : slice_index (multiple q r) k ≡ q * slice_index r k = entry-multiple q r k in let b : slice_index (multiple p v) k ≡ p * slice_index v k = entry-multiple p v k in omega arith

pub is_repeated : (new old : List Term) (times : ℕ) → length new ≡ length old →
    ((k : ℕ) (d : Term) → k < length new → slice_index_or new k d ≡ repeated times (slice_index_or old k d)) → new ≡ map (repeated times) old
is_repeated new old times same h = ext_get_or d new (map (repeated times) old) (same ∙ sym (length-map old (repeated times)))
    (λ k l. h k d l ∙ sym (get_or-map (repeated times) old k d d (omega arith)))
  where
    d : Term
    d = record { count = 0; vector = old_vector }
      where
        old_vector : List ℕ
        old_vector = map (λ (t : Term). 0) old

-- what was taken out and changed is put back in its position
pub refilled : {A : Type 0} (n : ℕ) (xs ys : List A) → length xs ≡ n → take n (xs ++ drop (length xs) ys) ≡ xs
refilled n xs ys same = take-append-le n xs (drop (length xs) ys) (omega arith) ∙ take_all n xs (omega arith)

-- ---- no entry before an index, multiplied by `times`, exceeds the limit

pub within_more : (x : List ℕ) (times limit i : ℕ) → ((k : ℕ) → k < i → times * slice_index x k ≤ limit) → (limit < times * slice_index x i → ⊥) → (k : ℕ) → k < i + 1 →
    times * slice_index x k ≤ limit
within_more x times limit i before not_large k l = elim (cases_eq k i) [
  | inl e ↦ elim (cases_lt limit (times * slice_index x i)) [
    | inl large ↦ absurd (not_large large)
    | inr within ↦ subst (λ j. times * slice_index x j ≤ limit) (sym e) within
  ]
  | inr ne ↦ before k (omega arith)
]

pub within_all : (x : List ℕ) (times limit i : ℕ) → ((k : ℕ) → k < i → times * slice_index x k ≤ limit) → length x ≤ i → (k : ℕ) → times * slice_index x k ≤ limit
within_all x times limit i before exceeded k = elim (cases_lt k i) [
  | inl l ↦ before k l
  | inr h ↦ let none : slice_index x k ≡ 0 = get_or_past x k 0 (omega arith) in rw none (omega arith)
]

-- ---- one more term

pub term_pushed : (new kept terms : List Term) (count : ℕ) (copy ray : List ℕ) → new ≡ kept ++ record { count = count; vector = copy } ∷ [] → kept ≡ terms → copy ≡ ray →
    new ≡ terms ++ record { count = count; vector = ray } ∷ []
term_pushed new kept terms count copy ray is e f = is ∙ ap₂ (λ ts v. ts ++ record { count = count; vector = v } ∷ []) e f

pub lent_terms : (times : ℕ) (old lent new kept : List Term) → kept ≡ new → new ≡ map (repeated times) lent → lent ≡ old → kept ≡ map (repeated times) old
lent_terms times old lent new kept e is f = e ∙ is ∙ ap (map (repeated times)) f

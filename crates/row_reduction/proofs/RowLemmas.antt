-- One more row, and one column eliminated.
use Rattle.std.proofs.Common.{◌≡◌, ℕ, inl, inr, List, [], ◌∷◌, ◌++◌, length, get_or, take, refl, sym, ap, ap₂, ◌∙◌, subst, arith, ◌<◌, ◌+◌, append-nil, slice_set, zero, suc, ℤ, Contains}
use Rattle.std.specs.Prelude.{◌↔◌, Result, Ok, Err, IfOk}
use Rattle.std.specs.List.{All, remove, slice_index_or}
use Rattle.std.proofs.lemmas.List.Elements.{All-cons, All-head, All-tail, All-push, All-nil, All-append, All-set, All-get_or, All-weaker, All-contains, All-contains_itself, Contains-append_left}
use Rattle.std.proofs.lemmas.List.{take_more, length-set}
use Rattle.cone_definitions.specs.Rows.{Row, IsZeroAt}
use Rattle.cone_arithmetic.specs.Sparse.{IsSparse, IsInRange}
use Rattle.cone_row_laws.specs.Solutions.{HaveSameZeros}
use Rattle.cone_row_laws.specs.Operations.{IsSumWith}
use Rattle.std.specs.List.Sorted.{IsPermutation}
use Rattle.std.proofs.lemmas.List.Sorted.{All-permutation, IsPermutation-remove, IsPermutation-sym}
use Rattle.row_reduction.specs.Clearing.{AreClearedBy, AddsRow, AddsMultipleAt}
use Rattle.row_reduction.specs.declared.fault.SolveFault.{SolveFault}
use Rattle.cone_row_laws.proofs.Sums.{sum_zero_alike}

pub all_split : {X : Type 0} (P : X → Type 0) (front back : List X) → All P (front ++ back) → All P front × All P back
all_split P [] back h = (All-nil P, h)
all_split P (one ∷ front) back h = let k = all_split P front back (All-tail P one (front ++ back) h) in
    (All-cons P one front (All-head P one (front ++ back) h) k.0, k.1)

pub all_last : {X : Type 0} (P : X → Type 0) (front : List X) (last : X) → All P (front ++ last ∷ []) → P last
all_last P front last h = All-head P last [] (all_split P front (last ∷ []) h).1

-- what holds of all rows holds of all that are among them
pub all_of_these : (P : Row → Type 0) (rows others : List Row) → All (Contains rows) others → All P rows → All P others
all_of_these P rows others h all = All-weaker (Contains rows) P (λ row c. All-contains P rows row all c) others h

-- one more row is appended, or left out if it is 0 wherever the others are
pub distinct_more : (rows kept : List Row) (row : Row) (new : List Row) → HaveSameZeros rows kept → AddsRow kept row new → HaveSameZeros (rows ++ row ∷ []) new
distinct_more rows kept row new same (inl is) x = (
  λ z. rw is (All-push P kept row ((same x).0 (all_split P rows (row ∷ []) z).0) (all_last P rows row z)),
  λ z. let k = subst (All P) is z in All-push P rows row ((same x).1 (all_split P kept (row ∷ []) k).0) (all_last P kept row k),
)
  where
    P : Row → Type 0
    P r = IsZeroAt r x
distinct_more rows kept row new same (inr left) x = (
  λ z. rw left.0 ((same x).0 (all_split P rows (row ∷ []) z).0),
  λ z. let k = subst (All P) left.0 z in All-push P rows row ((same x).1 k) (left.1 x k),
)
  where
    P : Row → Type 0
    P r = IsZeroAt r x

-- what holds of all rows holds of one that is removed, and of the others
pub taken_out : (P : Row → Type 0) (rows : List Row) (place : ℕ) (row : Row) → place < length rows → row ≡ get_or rows place row → All P rows → P row × All P (remove rows place)
taken_out P rows place row within is all =
    let k = All-permutation P rows (row ∷ remove rows place) (IsPermutation-remove rows place row within is) all in
    (All-head P row (remove rows place) k, All-tail P row (remove rows place) k)

-- a column is eliminated: the pivot row is removed from the unsolved rows
pub column_solved : (unsolved rest solved rest_after solved_after : List Row) (pivot : Row) → IsPermutation unsolved (pivot ∷ rest) → AreClearedBy pivot rest rest_after →
    AreClearedBy pivot solved solved_after → HaveSameZeros (unsolved ++ solved) (rest_after ++ (solved_after ++ pivot ∷ []))
column_solved unsolved rest solved rest_after solved_after pivot same a b x = (
  λ z. let k = all_split P unsolved solved z in
      let l = All-permutation P unsolved (pivot ∷ rest) same k.0 in
      let p : IsZeroAt pivot x = All-head P pivot rest l in
      All-append P rest_after (solved_after ++ pivot ∷ []) ((a x p).0 (All-tail P pivot rest l)) (All-push P solved_after pivot ((b x p).0 k.1) p),
  λ z. let k = all_split P rest_after (solved_after ++ pivot ∷ []) z in
      let p : IsZeroAt pivot x = all_last P solved_after pivot k.1 in
      All-append P unsolved solved
      (All-permutation P (pivot ∷ rest) unsolved (IsPermutation-sym unsolved (pivot ∷ rest) same) (All-cons P pivot rest p ((a x p).1 k.0)))
      ((b x p).1 (all_split P solved_after (pivot ∷ []) k.1).0),
)
  where
    P : Row → Type 0
    P row = IsZeroAt row x

-- ---- one row is changed

pub set_back : {X : Type 0} (P : X → Type 0) (xs : List X) (i : ℕ) (y d : X) → i < length xs → (P y → P (get_or xs i d)) → All P (slice_set xs i y) → All P xs
set_back P [] i y d l back h = let no : ⊥ = omega arith in absurd no
set_back P (x ∷ xs) zero y d l back h = All-cons P x xs (back (All-head P y xs h)) (All-tail P y xs h)
set_back P (x ∷ xs) (suc i) y d l back h = All-cons P x xs (All-head P x (slice_set xs i y) h)
    (set_back P xs i y d (omega arith) back (All-tail P x (slice_set xs i y) h))

-- a multiple of the pivot row is added to the row at an index
pub cleared_at : (columns : ℕ) (pivot : Row) (start rows : List Row) (i : ℕ) (factor : ℤ) (new : List Row) → i < length rows →
    AddsMultipleAt columns rows i factor pivot new → AreClearedBy pivot start rows → AreClearedBy pivot start new
cleared_at columns pivot start rows i factor new h adds same x p = rw adds.replaced (
  λ z. let k = (same x p).0 z in All-set P rows i adds.sum (alike.0 (All-get_or P rows i [] h k)) k,
  λ z. (same x p).1 (set_back P rows i adds.sum [] h alike.1 z),
)
  where
    P : Row → Type 0
    P r = IsZeroAt r x

    alike : IsZeroAt (get_or rows i []) x ↔ IsZeroAt adds.sum x
    alike = sum_zero_alike (get_or rows i []) factor pivot adds.sum adds.is_sum x p

-- the sum replaces row i
pub sum_replaces : (columns : ℕ) (rows : List Row) (i : ℕ) (factor : ℤ) (other : Row) (result : Result Row SolveFault) → IfOk result (IsSumWith (slice_index_or rows i []) factor other) → IfOk result (IsInRange columns) → IfOk result IsSparse
    → IfOk result (λ sum. AddsMultipleAt columns rows i factor other (slice_set rows i sum))
sum_replaces columns rows i factor other (Ok sum) is_sum in_range is_sparse = record { sum = sum; is_sum = is_sum; in_range = in_range; is_sparse = is_sparse; replaced = refl }
sum_replaces columns rows i factor other (Err fault) is_sum in_range is_sparse = tt

pub count_at : (columns : ℕ) (rows : List Row) (i : ℕ) (factor : ℤ) (other : Row) (new : List Row) → AddsMultipleAt columns rows i factor other new → length new ≡ length rows
count_at columns rows i factor other new adds = ap length adds.replaced ∙ length-set rows i adds.sum

-- ---- both blocks

pub joined_none : (rows others none : List Row) → none ≡ [] → HaveSameZeros rows others → HaveSameZeros rows (others ++ none)
joined_none rows others none e h = subst (HaveSameZeros rows) (sym (ap (λ r. others ++ r) e ∙ append-nil others)) h

pub zeros_follow : (rows middle others : List Row) → HaveSameZeros rows middle → HaveSameZeros middle others → HaveSameZeros rows others
zeros_follow rows middle others h k x = (λ z. (k x).0 ((h x).0 z), λ z. (h x).1 ((k x).1 z))

pub zeros_reordered : (rows others : List Row) → IsPermutation rows others → HaveSameZeros rows others
zeros_reordered rows others p x = (All-permutation P rows others p, All-permutation P others rows (IsPermutation-sym rows others p))
  where
    P : Row → Type 0
    P row = IsZeroAt row x

-- rows without repetition, made sparser and then reordered
pub zeros_ordered : (rows distinct thinned ordered : List Row) → HaveSameZeros rows distinct → HaveSameZeros distinct thinned → IsPermutation thinned ordered → HaveSameZeros rows ordered
zeros_ordered rows distinct thinned ordered a b p =
    zeros_follow rows thinned ordered (zeros_follow rows distinct thinned a b) (zeros_reordered thinned ordered p)

pub back_reordered : (front back others : List Row) → IsPermutation back others → HaveSameZeros (front ++ back) (front ++ others)
back_reordered front back others p x = (
  λ z. let k = all_split P front back z in All-append P front others k.0 (All-permutation P back others p k.1),
  λ z. let k = all_split P front others z in All-append P front back k.0 (All-permutation P others back (IsPermutation-sym back others p) k.1),
)
  where
    P : Row → Type 0
    P row = IsZeroAt row x

pub front_replaced : (front others back : List Row) → HaveSameZeros front others → HaveSameZeros (front ++ back) (others ++ back)
front_replaced front others back h x = (
  λ z. let k = all_split P front back z in All-append P others back ((h x).0 k.0) k.1,
  λ z. let k = all_split P others back z in All-append P front back ((h x).1 k.0) k.1,
)
  where
    P : Row → Type 0
    P row = IsZeroAt row x

-- ---- rows one by one

pub rows_pushed : (rows old new : List Row) (i : ℕ) (row : Row) → i < length rows → old ≡ take i rows → new ≡ old ++ row ∷ [] → row ≡ get_or rows i [] → new ≡ take (i + 1) rows
rows_pushed rows old new i row l so_far is same = is ∙ ap₂ (λ xs r. xs ++ r ∷ []) so_far same ∙ sym (take_more rows i [] l)

-- one more row is appended, or left out
pub stand_more : (rows kept : List Row) (row : Row) (new : List Row) → All (Contains rows) kept → AddsRow kept row new → All (Contains (rows ++ row ∷ [])) new
stand_more rows kept row new h adds = elim adds [
  | inl is ↦ rw is (All-push (Contains (rows ++ row ∷ [])) kept row still (all_last (Contains (rows ++ row ∷ [])) rows row (All-contains_itself (rows ++ row ∷ []))))
  | inr left ↦ rw left.0 still
]
  where
    still : All (Contains (rows ++ row ∷ [])) kept
    still = All-weaker (Contains rows) (Contains (rows ++ row ∷ [])) (λ r c. Contains-append_left rows (row ∷ []) r c) kept h

-- The rows that are left after one more row is taken.
use Rattle.std.proofs.Common.{◌≡◌, ◌≢◌, ℕ, ◌<◌, ⊎_elim, List, [], ◌∷◌, ◌++◌, Contains, length, get_or, zero-add, zero, suc, subst, subst₂, sym, ◌∙◌, arith}
use Rattle.std.specs.List.{range_with_len, remove}
use Rattle.std.specs.List.Sorted.{IsPermutation}
use Rattle.std.proofs.lemmas.List.{append-nil}
use Rattle.std.proofs.lemmas.List.FromFn.{length-range_with_len, get_or-range_with_len}
use Rattle.std.proofs.lemmas.List.Elements.{Contains-get_or, Contains-push, Contains-push_cases, Contains-append_left}
use Rattle.std.proofs.lemmas.List.Quantifiers.{all_pairs_remove}
use Rattle.std.proofs.lemmas.List.Sorted.{IsPermutation-remove, IsPermutation-sym, Contains-permutation}
use Rattle.cone_definitions.specs.Orders.{AreLeft}
use Rattle.cone_laws.proofs.DistinctLemmas.{apart_permutation}

-- if no row is taken, all rows are left
pub left_none : (count : ℕ) → AreLeft count [] (range_with_len 0 count)
left_none count = record {
  ascending = λ i j d less within. let n = length-range_with_len 0 count in
      subst₂ (λ a b. a < b) (sym (get_or-range_with_len 0 count i d (omega arith))) (sym (get_or-range_with_len 0 count j d (omega arith))) (omega arith);
  members = λ number. (
    λ h. let n = length-range_with_len 0 count in let e = get_or-range_with_len 0 count h.0 number (let w = h.1 in omega arith) in
        ((let f = h.2 in let w = h.1 in omega arith), λ none. none_in_nothing none),
    λ h. (number, (let n = length-range_with_len 0 count in let w = h.0 in omega arith), get_or-range_with_len 0 count number number h.0 ∙ zero-add number),
  );
}
  where
    none_in_nothing : {number : ℕ} → Contains [] number → ⊥
    none_in_nothing h = let w = h.1 in omega arith

-- a row is taken from those that are left
pub left_more : (count : ℕ) (taken left : List ℕ) (position number : ℕ) → AreLeft count taken left → position < length left → number ≡ get_or left position number →
    AreLeft count (taken ++ number ∷ []) (remove left position)
left_more count taken left position number h within is = record {
  ascending = all_pairs_remove (λ one other. one < other) left position within h.ascending;
  members = λ other. (forth other, back other);
}
  where
    moved : IsPermutation left (number ∷ remove left position)
    moved = IsPermutation-remove left position number within is

    occurs : (other : ℕ) → Contains (remove left position) other → Contains left other
    occurs other c = Contains-permutation (number ∷ remove left position) left other (IsPermutation-sym left (number ∷ remove left position) moved)
        (suc c.0, (let w = c.1 in let v : suc c.0 < suc (length (remove left position)) = omega arith in v), c.2)

    differs : (other : ℕ) → Contains (remove left position) other → other ≢ number
    differs other c same =
        apart_permutation left (number ∷ remove left position) moved
        (λ i j d less w e. let f = h.ascending i j d less w in omega arith) 0 (suc c.0) other (omega arith)
        (let w = c.1 in let v : suc c.0 < suc (length (remove left position)) = omega arith in v)
        (sym same ∙ sym c.2)

    forth : (other : ℕ) → Contains (remove left position) other → (other < count) × ¬ Contains (taken ++ number ∷ []) other
    forth other c = let m = (h.members other).0 (occurs other c) in
        (m.0, λ t. ⊎_elim m.1 (λ e. differs other c (sym e)) (Contains-push_cases taken number other t))

    back : (other : ℕ) → (other < count) × ¬ Contains (taken ++ number ∷ []) other → Contains (remove left position) other
    back other m = rest other (Contains-permutation left (number ∷ remove left position) other moved ((h.members other).1 (m.0, λ t. m.1 (Contains-append_left taken (number ∷ []) other t))))
        (λ e. m.1 (subst (Contains (taken ++ number ∷ [])) (sym e) (Contains-push taken number)))
      where
        rest : (other : ℕ) → Contains (number ∷ remove left position) other → other ≢ number → Contains (remove left position) other
        rest other (zero, w, e) not = absurd (not (sym e))
        rest other (suc k, w, e) not = (k, (let v : suc k < suc (length (remove left position)) = w in omega arith), e)

-- the row that is taken is a row
pub taken_row : (count : ℕ) (taken left : List ℕ) (position number : ℕ) → AreLeft count taken left → position < length left → number ≡ get_or left position number → number < count
taken_row count taken left position number h within value = ((h.members number).0 (subst (Contains left) (sym value) (Contains-get_or left position number within))).0

-- if no row is left, all are taken
pub all_taken : (count : ℕ) (taken left : List ℕ) → length left ≡ 0 → IsPermutation (range_with_len 0 count) (taken ++ left) → IsPermutation (range_with_len 0 count) taken
all_taken count taken [] none h = subst (IsPermutation (range_with_len 0 count)) (append-nil taken) h
all_taken count taken (number ∷ left) none h = absurd (omega arith)

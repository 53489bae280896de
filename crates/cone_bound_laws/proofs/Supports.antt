-- The columns of a vector's support, as a list.
use Rattle.std.proofs.Common.{◌≡◌, ◌≢◌, ℕ, zero, suc, ◌<◌, inl, inr, List, [], ◌∷◌, slice_index, sym, subst, arith}
use Rattle.std.specs.List.{AllByRecursion}
use Rattle.std.proofs.lemmas.Bool.{cases_eq}
use Rattle.cone_bound_laws.proofs.Built.{Apart, Distinct}
use Rattle.cone_bound_laws.proofs.Ends.{OfSupport}
use Rattle.cone_bound_laws.proofs.Walk.{Fresh}

-- all numbers are below n
abbrev pub Below : ℕ → List ℕ → Type 0
Below n js = AllByRecursion (λ j. j < n) js

below_apart : (n : ℕ) (js : List ℕ) → Below n js → Apart n js
below_apart n [] h = tt
below_apart n (j ∷ js) h = (λ e. absurd (omega (arith, h.0)), below_apart n js h.1)

below_more : (n : ℕ) (js : List ℕ) → Below n js → Below (suc n) js
below_more n [] h = tt
below_more n (j ∷ js) h = (omega (arith, h.0), below_more n js h.1)

pub record Support (n : ℕ) (x : List ℕ) : Type 0 where
  pub list : List ℕ
  pub below : Below n list
  pub distinct : Distinct list
  pub of_support : OfSupport x list
  pub off : (i : ℕ) → i < n → Apart i list → slice_index x i ≡ 0

pub support_below : (n : ℕ) (x : List ℕ) → Support n x
unfolding Distinct
support_below zero x = record { list = []; below = tt; distinct = tt; of_support = tt; off = λ i l a. absurd (omega arith) }
support_below (suc n) x = let s = support_below n x in elim (cases_eq (slice_index x n) 0) [
  | inl z ↦ record {
    list = s.list;
    below = below_more n s.list s.below;
    distinct = s.distinct;
    of_support = s.of_support;
    off = λ i l a. elim (cases_eq i n) [ inl e ↦ subst (λ k. slice_index x k ≡ 0) (sym e) z | inr ne ↦ s.off i (omega arith) a ];
  }
  | inr some ↦ record {
    list = n ∷ s.list;
    below = (omega arith, below_more n s.list s.below);
    distinct = (below_apart n s.list s.below, s.distinct);
    of_support = (some, s.of_support);
    off = λ i l a. s.off i (let ne : i ≢ n = a.0 in omega arith) a.1;
  }
]

-- each differs from all others
abbrev EachApart : List ℕ → List ℕ → Type 0
EachApart js done = AllByRecursion (λ j. Apart j done) js

one_more_apart : (c : ℕ) (js done : List ℕ) → Apart c js → EachApart js done → EachApart js (c ∷ done)
one_more_apart c [] done a h = tt
one_more_apart c (j ∷ js) done a h = ((λ e. a.0 (sym e), h.0), one_more_apart c js done a.1 h.1)

fresh_list : (js done : List ℕ) → Distinct js → EachApart js done → Fresh js done
unfolding Distinct Fresh
fresh_list [] done d h = tt
fresh_list (j ∷ js) done d h = (h.0, fresh_list js (j ∷ done) d.1 (one_more_apart j js done d.0 h.1))

apart_from_none : (js : List ℕ) → EachApart js []
apart_from_none [] = tt
apart_from_none (j ∷ js) = (tt, apart_from_none js)

pub all_fresh : (js : List ℕ) → Distinct js → Fresh js []
all_fresh js d = fresh_list js [] d (apart_from_none js)

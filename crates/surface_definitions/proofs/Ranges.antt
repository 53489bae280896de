-- Lists over the numbers below a bound, one more number at a time.
use Rattle.std.proofs.Common.{◌≡◌, ℕ, zero, suc, ◌+◌, ◌<◌, ◌≤◌, Bool, cond, List, [], ◌∷◌, ◌++◌, filter, Option, Some, None, refl, ap, ◌∙◌, arith, append-nil, add-zero}
use Rattle.std.specs.List.{cons_option, filter_map, flat_map}
use Rattle.std.specs.Prelude.{option_to_list}
use Rattle.std.proofs.lemmas.List.Elements.{filter-append, filter_map-append}
use Rattle.std.proofs.lemmas.Grind.{flat_map-append}
use Rattle.table_definitions.specs.Lists.{below}
use Rattle.table_definitions.proofs.ListFacts.{below_next}

one_option : {Y : Type 0} (o : Option Y) → cons_option o [] ≡ option_to_list o
one_option None = refl
one_option (Some y) = refl

pub filter_map-more : {Y : Type 0} (h : ℕ → Option Y) (n : ℕ) → filter_map h (below (n + 1)) ≡ filter_map h (below n) ++ option_to_list (h n)
filter_map-more h n =
    ap (filter_map h) (below_next n) ∙ filter_map-append h (below n) (n ∷ []) ∙ ap (λ ys. filter_map h (below n) ++ ys) (one_option (h n))

pub filter-more : (p : ℕ → Bool) (n : ℕ) → filter p (below (n + 1)) ≡ filter p (below n) ++ cond (p n) (n ∷ []) []
filter-more p n = ap (filter p) (below_next n) ∙ filter-append p (below n) (n ∷ [])

pub flat_map-more : {Y : Type 0} (f : ℕ → List Y) (n : ℕ) → flat_map f (below (n + 1)) ≡ flat_map f (below n) ++ f n
flat_map-more f n =
    ap (flat_map f) (below_next n) ∙ flat_map-append f (below n) (n ∷ []) ∙ ap (λ ys. flat_map f (below n) ++ ys) (append-nil (f n))

-- numbers without a value add nothing
pub quiet : {Y : Type 0} (h : ℕ → Option Y) (a d : ℕ) → ((k : ℕ) → a ≤ k → k < a + d → h k ≡ None) → filter_map h (below (a + d)) ≡ filter_map h (below a)
quiet h a zero none = ap (λ n. filter_map h (below n)) (add-zero a)
quiet h a (suc d) none =
    let e : a + suc d ≡ (a + d) + 1 = omega arith in
    let here : h (a + d) ≡ None = none (a + d) (omega arith) (omega arith) in
    ap (λ n. filter_map h (below n)) e ∙ filter_map-more h (a + d) ∙ ap (λ o. filter_map h (below (a + d)) ++ option_to_list o) here
    ∙ append-nil (filter_map h (below (a + d))) ∙ quiet h a d (λ k low high. none k low (omega arith))

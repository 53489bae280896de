-- Sums over the items that pass a test, and over blocks of numbers; if none passes, the count is 0.
use Rattle.std.proofs.Common.{◌≡◌, ℕ, zero, suc, ◌+◌, ◌*◌, Bool, true, false, cond, List, [], ◌∷◌, filter, refl, sym, ap, ◌∙◌, arith}
use Rattle.std.specs.Prelude.{◌==◌, ◌&&◌, not, count_by, sum_by}
use Rattle.std.specs.List.{list_all}
use Rattle.std.proofs.lemmas.Bool.{ne_eqb}
use Rattle.std.proofs.lemmas.List.Sums.{sum_by-cons}
use Rattle.basic_lemmas.proofs.Truths.{one_if}
use Rattle.table_definitions.specs.Lists.{below}
use Rattle.table_definitions.proofs.ListFacts.{sum_below_next}
use Rattle.surface_laws.proofs.Counting.{sum_by_same, sum_by-none, below_sum}

kept_sum : {A : Type 0} (f : A → ℕ) (x : A) (xs : List A) (b : Bool) → sum_by f (cond b (x ∷ xs) xs) ≡ one_if b * f x + sum_by f xs
kept_sum f x xs true = omega (arith, sum_by-cons f x xs)
kept_sum f x xs false = omega arith

pub sum_by-filter : {A : Type 0} (f : A → ℕ) (p : A → Bool) (xs : List A) → sum_by f (filter p xs) ≡ sum_by (λ x. one_if (p x) * f x) xs
sum_by-filter f p [] = refl
sum_by-filter f p (x ∷ xs) =
    kept_sum f x (filter p xs) (p x) ∙ ap (λ m. one_if (p x) * f x + m) (sum_by-filter f p xs) ∙ sym (sum_by-cons (λ x. one_if (p x) * f x) x xs)

-- blocks of w numbers
pub sum_blocks : (f : ℕ → ℕ) (w n : ℕ) → sum_by f (below (w * n)) ≡ sum_by (λ t. sum_by (λ j. f (w * t + j)) (below w)) (below n)
sum_blocks f w zero = let z : w * 0 ≡ 0 = omega arith in ap (λ m. sum_by f (below m)) z
sum_blocks f w (suc n) =
    let e : w * suc n ≡ w * n + w = omega arith in
    let up : n + 1 ≡ suc n = omega arith in
    ap (λ m. sum_by f (below m)) e ∙ below_sum f (w * n) w ∙ ap (λ m. m + sum_by (λ j. f (w * n + j)) (below w)) (sum_blocks f w n)
    ∙ sym (sum_below_next (λ t. sum_by (λ j. f (w * t + j)) (below w)) n) ∙ ap (λ m. sum_by (λ t. sum_by (λ j. f (w * t + j)) (below w)) (below m)) up

-- a sum that counts if a test passes
pub sum_if : (b : Bool) (f : ℕ → ℕ) (xs : List ℕ) → one_if b * sum_by f xs ≡ sum_by (λ x. one_if b * f x) xs
sum_if true f xs = (let e : 1 * sum_by f xs ≡ sum_by f xs = omega arith in e) ∙ sum_by_same f (λ x. 1 * f x) xs (λ x a. omega arith)
sum_if false f xs = (let e : 0 * sum_by f xs ≡ 0 = omega arith in e) ∙ sym (sum_by-none (λ x. 0 * f x) xs (λ x a. omega arith))

pub both_if : (a b : Bool) (g : ℕ) → one_if b * (one_if a * g) ≡ one_if (a && b) * g
both_if true true g = omega arith
both_if true false g = omega arith
both_if false true g = omega arith
both_if false false g = omega arith

pub and_if : (a b : Bool) → one_if a * one_if b ≡ one_if (a && b)
and_if true true = refl
and_if true false = refl
and_if false true = refl
and_if false false = refl

-- no item of a list passes a test if and only if the count is 0
pub none_pass : {A : Type 0} (p : A → Bool) (xs : List A) → list_all (λ x. not (p x)) xs ≡ (count_by p xs == 0)
none_pass p [] = refl
none_pass {A} p (x ∷ xs) = by_test (p x) refl (none_pass p xs)
  where
    by_test : (b : Bool) → p x ≡ b → list_all (λ y. not (p y)) xs ≡ (count_by p xs == 0) → (not (p x) && list_all (λ y. not (p y)) xs) ≡ (count_by p (x ∷ xs) == 0)
    by_test true e r =
        let more : count_by p (x ∷ xs) ≡ one_if (p x) + count_by p xs = sum_by-cons (λ y. one_if (p y)) x xs in
        let one : one_if (p x) ≡ 1 = ap one_if e in
        ap (λ b. not b && list_all (λ y. not (p y)) xs) e ∙ sym (ne_eqb (count_by p (x ∷ xs)) 0 (omega arith))
    by_test false e r =
        let more : count_by p (x ∷ xs) ≡ one_if (p x) + count_by p xs = sum_by-cons (λ y. one_if (p y)) x xs in
        let none : one_if (p x) ≡ 0 = ap one_if e in
        let same : count_by p (x ∷ xs) ≡ count_by p xs = omega arith in
        ap (λ b. not b && list_all (λ y. not (p y)) xs) e ∙ r ∙ ap (λ n. n == 0) (sym same)

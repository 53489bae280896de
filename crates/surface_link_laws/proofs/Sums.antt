-- Sums over the items that pass a test, over blocks of numbers, and with only two nonzero terms.
use Rattle.std.proofs.Common.{◌≡◌, ◌≢◌, ℕ, ◌+◌, ◌*◌, ◌<◌, inl, inr, refl, sym, ap, ◌∙◌, arith}
use Rattle.std.specs.Prelude.{◌==◌, get_or, sum_by}
use Rattle.std.specs.List.{AllPairs}
use Rattle.std.proofs.lemmas.Bool.{cases_eq, eq-eqb, ne_eqb}
use Rattle.std.proofs.lemmas.List.FromFn.{length-range_with_len, get_or-range_with_len}
use Rattle.table_definitions.specs.Lists.{below}
use Rattle.table_definitions.proofs.Listed.{below-among}
use Rattle.surface_laws.proofs.Counting.{sum_by_same, one_term}
use Rattle.surface_laws.proofs.Sums.{sum_by_plus}
use Rattle.basic_lemmas.proofs.Truths.{one_if}

-- the term at x, and 0 elsewhere
term_at : (ℕ → ℕ) → ℕ → ℕ → ℕ
term_at f x k = one_if (k == x) * f x

at_it : (f : ℕ → ℕ) (x k : ℕ) → k ≡ x → term_at f x k ≡ f x
unfolding term_at
at_it f x k e = ap (λ b. one_if b * f x) (eq-eqb k x e) ∙ omega arith

off_it : (f : ℕ → ℕ) (x k : ℕ) → k ≢ x → term_at f x k ≡ 0
unfolding term_at
off_it f x k ne = ap (λ b. one_if b * f x) (ne_eqb k x ne) ∙ omega arith

first_of_two : (f m n : ℕ) → m ≡ f → n ≡ 0 → f ≡ m + n
first_of_two f m n e z = omega arith

second_of_two : (f m n : ℕ) → m ≡ 0 → n ≡ f → f ≡ m + n
second_of_two f m n z e = omega arith

alone : (f : ℕ → ℕ) (x n : ℕ) → x < n → sum_by (term_at f x) (below n) ≡ f x
alone f x n lx = one_term (term_at f x) x n (λ k off. off_it f x k off) lx ∙ at_it f x x refl

pub one_bounded : (f : ℕ → ℕ) (a n : ℕ) → a < n → ((k : ℕ) → k < n → k ≢ a → f k ≡ 0) → sum_by f (below n) ≡ f a
one_bounded f a n la rest = sum_by_same f (term_at f a) (below n) (λ k m. each k (below-among k n m)) ∙ alone f a n la
  where
    each : (k : ℕ) → k < n → f k ≡ term_at f a k
    each k lk = elim (cases_eq k a) [
      | inl e ↦ ap f e ∙ sym (at_it f a k e)
      | inr off ↦ rest k lk off ∙ sym (off_it f a k off)
    ]

pub two_terms : (f : ℕ → ℕ) (a b n : ℕ) → a < n → b < n → a ≢ b → ((k : ℕ) → k < n → k ≢ a → k ≢ b → f k ≡ 0) → sum_by f (below n) ≡ f a + f b
two_terms f a b n la lb ne rest =
    sum_by_same f (λ k. term_at f a k + term_at f b k) (below n) (λ k m. each k (below-among k n m))
    ∙ sum_by_plus (term_at f a) (term_at f b) (λ k. term_at f a k + term_at f b k) (λ k. refl) (below n)
    ∙ (λ i. alone f a n la i + alone f b n lb i)
  where
    each : (k : ℕ) → k < n → f k ≡ term_at f a k + term_at f b k
    each k lk = elim (cases_eq k a) [
      | inl e ↦ ap f e ∙ first_of_two (f a) (term_at f a k) (term_at f b k) (at_it f a k e) (off_it f b k (λ d. ne (sym e ∙ d)))
      | inr off ↦ elim (cases_eq k b) [
        | inl e ↦ ap f e ∙ second_of_two (f b) (term_at f a k) (term_at f b k) (off_it f a k off) (at_it f b k e)
        | inr too ↦ rest k lk off too ∙ second_of_two 0 (term_at f a k) (term_at f b k) (off_it f a k off) (off_it f b k too)
      ]
    ]

-- the numbers below n ascend
pub ascending_below : (n : ℕ) → AllPairs ◌<◌ (below n)
ascending_below n i j d less inside =
    let lj : j < n = omega (arith, length-range_with_len 0 n) in
    let at_i : get_or (below n) i d ≡ 0 + i = get_or-range_with_len 0 n i d (omega arith) in
    let at_j : get_or (below n) j d ≡ 0 + j = get_or-range_with_len 0 n j d lj in
    omega arith

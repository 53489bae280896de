-- Facts of numbers and of ranges of them.
use Rattle.std.proofs.Common.{◌≡◌, ◌≢◌, ℕ, false, arith, zero, suc, ◌+◌, ◌<◌, ⊎_elim, subst, List, [], ◌∷◌, ◌++◌, ◌⊎◌, inl, inr, sym, ap, ◌∙◌, Bool, true}
use Rattle.std.specs.Prelude.{◌==◌, not, ◌||◌, nat_lt}
use Rattle.std.specs.List.{range_with_len}
use Rattle.std.proofs.lemmas.Bool.{cases_order, cases_lt, eq-eqb, ne_eqb, lt-ltb, le-ltb}

pub not_equal : (a b : ℕ) → not (a == b) ≡ true → a ≢ b
not_equal a b h = grind arith

-- a test that holds unless two numbers are equal
pub given_apart : (a b : ℕ) (c : Bool) → ((a == b) || c) ≡ true → a ≢ b → c ≡ true
given_apart a b c h d = grind arith

pub one_on : (n : ℕ) → suc n ≡ n + 1
one_on n = omega arith

-- two different numbers compared, one way and the other
pub compared_back : (a b : ℕ) → a ≢ b → nat_lt b a ≡ not (nat_lt a b)
compared_back a b ne = elim (cases_order a b) [
  | inl e ↦ absurd (ne e)
  | inr (inl less) ↦ let f : nat_lt b a ≡ false = le-ltb b a (omega arith) in f ∙ sym (ap not (lt-ltb a b less))
  | inr (inr more) ↦ let f : nat_lt a b ≡ false = le-ltb a b (omega arith) in lt-ltb b a more ∙ sym (ap not f)
]

-- a number that is one of two different numbers equals exactly one of them
pub equals_one_of_two : (a b first : ℕ) → (a ≡ b → ⊥) → (first ≡ a) ⊎ (first ≡ b) → (b == first) ≡ not (a == first)
equals_one_of_two a b first separate (inl e) = ne_eqb b first (λ f. separate (sym e ∙ sym f)) ∙ sym (ap not (eq-eqb a first (sym e)))
equals_one_of_two a b first separate (inr e) = eq-eqb b first (sym e) ∙ sym (ap not (ne_eqb a first (λ f. separate (f ∙ e))))

-- one more number of a range
pub range_more : (a n : ℕ) → range_with_len a (suc n) ≡ range_with_len a n ++ (a + n) ∷ []
range_more a zero = let e : a ≡ a + 0 = omega arith in ap (λ k. k ∷ []) e
range_more a (suc n) = let e : a + 1 + n ≡ a + suc n = omega arith in ap (λ (xs : List ℕ). a ∷ xs) (range_more (a + 1) n ∙ ap (λ k. range_with_len (a + 1) n ++ k ∷ []) e)

pub range_next : (a n : ℕ) → range_with_len a (n + 1) ≡ range_with_len a n ++ (a + n) ∷ []
range_next a n = let e : n + 1 ≡ suc n = omega arith in ap (range_with_len a) e ∙ range_more a n

-- what holds below n, and of n, holds below the next number
pub below_suc : (P : ℕ → Type 0) (n : ℕ) → ((j : ℕ) → j < n → P j) → P n → (j : ℕ) → j < suc n → P j
below_suc P n below here j h = elim (cases_lt j n) [
  | inl a ↦ below j a
  | inr b ↦ let e : n ≡ j = omega arith in subst P e here
]

-- an index of a list and one more item is one of the list, or the last
pub last_or_before : (n k : ℕ) → k < n + 1 → (k < n) ⊎ (k ≡ n)
last_or_before n k h = ⊎_elim (λ (l : k < n). inl l) (λ more. inr (omega arith)) (cases_lt k n)

pub less_unequal : (a b : ℕ) → a < b → (a == b) ≡ false
less_unequal a b l = grind arith

pub positive : (n : ℕ) → (n == 0) ≡ false → 0 < n
positive n h = grind arith

pub not_zero : (n : ℕ) → 0 < n → (n == 0) ≡ false
not_zero n h = grind arith

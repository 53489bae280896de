-- Capped sums, term by term.
use Rattle.std.proofs.Common.{◌≡◌, ℕ, ◌+◌, ◌<◌, ◌≤◌, ◌⊎◌, List, length, take, inl, inr, sym, ap, ◌∙◌, arith}
use Rattle.std.specs.Prelude.{sum_by}
use Rattle.std.specs.List.{slice_index_or}
use Rattle.std.proofs.lemmas.Bool.{cases_lt}
use Rattle.std.proofs.lemmas.List.Sums.{sum_by_more}
use Rattle.table_definitions.specs.Lists.{below}
use Rattle.table_definitions.proofs.ListFacts.{sum_below_next}
use Rattle.text_definitions.specs.Written.{limit}
use Rattle.surface_properties.specs.Capped.{capped}

pub capped_small : (n : ℕ) → n ≤ limit → capped n ≡ n
unfolding capped
capped_small n l = grind arith

pub capped_large : (n : ℕ) → limit < n → capped n ≡ limit + 1
unfolding capped
capped_large n l = grind arith

-- a number exceeds the limit if its capped value does
pub large_is : (n : ℕ) → limit < capped n → limit < n
large_is n l = elim (cases_lt limit n) [ inl more ↦ more | inr less ↦ omega (arith, capped_small n less) ]

pub small_is : (n : ℕ) → capped n ≤ limit → n ≤ limit
small_is n l = elim (cases_lt limit n) [ inl more ↦ omega (arith, capped_large n more) | inr less ↦ less ]

-- the capped sum of capped numbers is that of the numbers
pub capped_sum : (a b : ℕ) → capped (capped a + capped b) ≡ capped (a + b)
capped_sum a b = go (cases_lt limit a) (cases_lt limit b)
  where
    go : (limit < a) ⊎ (a ≤ limit) → (limit < b) ⊎ (b ≤ limit) → capped (capped a + capped b) ≡ capped (a + b)
    go (inl la) q = capped_large (capped a + capped b) (omega (arith, capped_large a la)) ∙ sym (capped_large (a + b) (omega arith))
    go (inr sa) (inl lb) = capped_large (capped a + capped b) (omega (arith, capped_large b lb)) ∙ sym (capped_large (a + b) (omega arith))
    go (inr sa) (inr sb) = (λ i. capped (capped_small a sa i + capped_small b sb i))

pub capped_add : (a b : ℕ) → capped (capped a + b) ≡ capped (a + b)
capped_add a b = go (cases_lt limit a)
  where
    go : (limit < a) ⊎ (a ≤ limit) → capped (capped a + b) ≡ capped (a + b)
    go (inl la) = capped_large (capped a + b) (omega (arith, capped_large a la)) ∙ sym (capped_large (a + b) (omega arith))
    go (inr sa) = ap (λ n. capped (n + b)) (capped_small a sa)

pub capped_zero : capped 0 ≡ 0
capped_zero = capped_small 0 (omega arith)

-- a capped sum with one more term
pub capped_more : (f : ℕ → ℕ) (n total one : ℕ) → total ≡ capped (sum_by f (below n)) → one ≡ capped (f n) → capped (total + one) ≡ capped (sum_by f (below (n + 1)))
capped_more f n total one e g = (λ i. capped (e i + g i)) ∙ capped_sum (sum_by f (below n)) (f n) ∙ ap capped (sym (sum_below_next f n))

-- a capped sum of a list with one more term
pub capped_step : {A : Type 0} (f : A → ℕ) (xs : List A) (i : ℕ) (d : A) (total : ℕ) → i < length xs → total ≡ capped (sum_by f (take i xs)) → capped (total + f (slice_index_or xs i d)) ≡ capped (sum_by f (take (i + 1) xs))
capped_step f xs i d total l e = ap (λ n. capped (n + f (slice_index_or xs i d))) e ∙ capped_add (sum_by f (take i xs)) (f (slice_index_or xs i d)) ∙ ap capped (sym (sum_by_more f xs i d l))

-- sums of two, three and four terms
pub capped_two : (x y a b : ℕ) → a ≡ capped x → b ≡ capped y → capped (a + b) ≡ capped (x + y)
capped_two x y a b e f = (λ i. capped (e i + f i)) ∙ capped_sum x y

pub capped_three : (x y z a b c two : ℕ) → a ≡ capped x → b ≡ capped y → c ≡ capped z → two ≡ capped (a + b) → capped (two + c) ≡ capped (x + y + z)
capped_three x y z a b c two e f g h = capped_two (x + y) z two c (h ∙ capped_two x y a b e f) g

pub capped_four : (x y z w a b c d two three : ℕ) → a ≡ capped x → b ≡ capped y → c ≡ capped z → d ≡ capped w → two ≡ capped (a + b) → three ≡ capped (two + c) → capped (three + d) ≡ capped (x + y + z + w)
capped_four x y z w a b c d two three e f g h k l = capped_two (x + y + z) w three d (l ∙ capped_three x y z a b c two e f g k) h

pub capped_some : (n : ℕ) → 0 < capped n → 0 < n
capped_some n l = elim (cases_lt limit n) [ inl more ↦ omega arith | inr less ↦ omega (arith, capped_small n less) ]

pub capped_none : (n : ℕ) → capped n ≤ 0 → n ≡ 0
capped_none n l = elim (cases_lt limit n) [ inl more ↦ absurd (omega (arith, capped_large n more)) | inr less ↦ omega (arith, capped_small n less) ]

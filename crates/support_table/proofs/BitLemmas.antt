-- Bits of words.
use Rattle.std.proofs.Common.{◌≡◌, ℕ, suc, ◌+◌, ◌-◌, ◌*◌, ◌/◌, ◌%◌, ◌^◌, ◌<◌, ◌≤◌, ◌⊎◌, inl, inr, Bool, true, List, w64, bit_and, bit_or, sym, ap, ◌∙◌, arith}
use Rattle.std.specs.Prelude.{◌↔◌}
use Rattle.std.specs.Int.{bit_at, trailing_zeros}
use Rattle.std.proofs.lemmas.Bool.{cases_eq, cases_lt}
use Rattle.std.proofs.Math.Nat.{div-div-eq-div-mul}
use Rattle.std.proofs.lemmas.Nat.{and_le_r, pow-add}
use Rattle.std.proofs.lemmas.Nat.Bits.{bit_at-lt, bit_at_above, bit_at_and, bit_at_or, bit_at_ones, bit_at_cat_low, bit_at_cat_high, bit_at-pow_same, bit_at-pow_other, bit_at-trailing_zeros}
use Rattle.support_bits.specs.Columns.{HasColumn}
use Rattle.support_bits.specs.Words.{bit_of, AreWordsOf, HaveCommon}
use Rattle.support_bits.proofs.WordLemmas.{bit_after}

-- ---- a bit of a union

pub either_set : (m n b : ℕ) → bit_at (bit_or m n) b ≡ 1 → (bit_at m b ≡ 1) ⊎ (bit_at n b ≡ 1)
either_set m n b is = let e = bit_at_or m n b in let l = bit_at-lt m b in elim (cases_eq (bit_at m b) 1) [
  | inl one ↦ inl one
  | inr none ↦ inr (omega (arith, e, l, none, is))
]

pub left_set : (m n b : ℕ) → bit_at m b ≡ 1 → bit_at (bit_or m n) b ≡ 1
left_set m n b is = let e = bit_at_or m n b in let l = bit_at-lt n b in omega (arith, e, l, is)

pub right_set : (m n b : ℕ) → bit_at n b ≡ 1 → bit_at (bit_or m n) b ≡ 1
right_set m n b is = let e = bit_at_or m n b in let l = bit_at-lt m b in omega (arith, e, l, is)

pub both_set : (m n b : ℕ) → bit_at (bit_and m n) b ≡ 1 → (bit_at m b ≡ 1) × (bit_at n b ≡ 1)
both_set m n b is = let e = bit_at_and m n b in let l = bit_at-lt m b in let k = bit_at-lt n b in (omega (arith, e, l, k, is), omega (arith, e, l, k, is))

-- ---- a number with one bit more

pub bit_within : (m j i : ℕ) → m < 2 ^ j → bit_at m i ≡ 1 → i < j
bit_within m j i fits one = elim (cases_lt i j) [
  | inl less ↦ less
  | inr exceeded ↦ absurd (let e = bit_at_above m j i fits exceeded in omega (arith, e, one))
]

module _ (m j : ℕ) (fits : m < 2 ^ j) where
  once : 2 ^ j ≡ 1 * 2 ^ j
  once = omega arith

  low_bit : (i : ℕ) → i < j → bit_at (2 ^ j + m) i ≡ bit_at m i
  low_bit i less = ap (λ p. bit_at (p + m) i) once ∙ bit_at_cat_low 1 j m i less

  high_bit : (i : ℕ) → j ≤ i → bit_at (2 ^ j + m) i ≡ bit_at 1 (i - j)
  high_bit i exceeded = ap (λ p. bit_at (p + m) i) once ∙ bit_at_cat_high 1 j m i fits exceeded

  pub old_bit : (i : ℕ) → bit_at m i ≡ 1 → bit_at (2 ^ j + m) i ≡ 1
  old_bit i one = low_bit i (bit_within m j i fits one) ∙ one

  pub new_bit : bit_at (2 ^ j + m) j ≡ 1
  new_bit = high_bit j (omega arith) ∙ let e : j - j ≡ 0 = omega arith in ap (bit_at 1) e ∙ bit_at-pow_same 0

  pub old_or_new_bit : (i : ℕ) → bit_at (2 ^ j + m) i ≡ 1 → (bit_at m i ≡ 1) ⊎ (i ≡ j)
  old_or_new_bit i one = elim (cases_lt i j) [
    | inl less ↦ inl (sym (low_bit i less) ∙ one)
    | inr exceeded ↦ elim (cases_eq i j) [
      | inl e ↦ inr e
      | inr other ↦ absurd (let z = sym (high_bit i exceeded) ∙ one in let none = bit_at-pow_other 0 (i - j) (λ (e : i - j ≡ 0). other (omega arith)) in omega (arith, z, none))
    ]
  ]

-- ---- the bytes of a word

pub bit_from : (n k i : ℕ) → bit_at (n / 2 ^ k) i ≡ bit_at n (k + i)
bit_from n k i = ap (λ m. m % 2) (div-div-eq-div-mul n (2 ^ k) (2 ^ i) ∙ ap (λ p. n / p) (sym (pow-add 2 k i)))

pub byte_bit : (n k i : ℕ) → i < 8 → bit_at (bit_and (n / 2 ^ k) 255) i ≡ bit_at n (k + i)
byte_bit n k i less = let b = bit_at_and (n / 2 ^ k) 255 i in let ones = bit_at_ones 8 i less in let l = bit_at-lt (n / 2 ^ k) i in let f = bit_from n k i in omega (arith, b, ones, l, f)

pub byte_fits : (n : ℕ) → bit_and n 255 < 2 ^ 8
byte_fits n = omega (arith, and_le_r n 255)

-- ---- bit by bit

-- the remaining bits are those of indices before the end
abbrev pub AreBefore : ℕ → ℕ → ℕ → Type 0
AreBefore place end bits = (i : ℕ) → bit_at bits i ≡ 1 → place + i < end

pub before_first : (first bits : ℕ) → bits < 2 ^ 64 → AreBefore first (first + 64) bits
before_first first bits fits i one = elim (cases_lt i 64) [
  | inl less ↦ omega arith
  | inr exceeded ↦ absurd (let e = bit_at_above bits 64 i fits exceeded in omega (arith, e, one))
]

pub next_before : (place end rest : ℕ) → AreBefore place end rest → 0 < rest → rest < 2 ^ 64 → place + trailing_zeros w64 rest < end
next_before place end rest h some fits = h (trailing_zeros w64 rest) (bit_at-trailing_zeros w64 rest some fits).1

pub before_more : (place end rest : ℕ) → AreBefore place end rest → AreBefore (place + trailing_zeros w64 rest + 1) end (rest / 2 ^ trailing_zeros w64 rest / 2)
before_more place end rest h i one = let b = h (trailing_zeros w64 rest + suc i) (sym (bit_after rest (trailing_zeros w64 rest) i) ∙ one) in omega arith

-- the remaining bits are those of the word from `bit` on
abbrev pub AreFrom : ℕ → ℕ → ℕ → Type 0
AreFrom word bit rest = (i : ℕ) → bit_at rest i ≡ bit_at word (bit + i)

pub from_first : (word : ℕ) → AreFrom word 0 word
from_first word i = ap (bit_at word) (omega arith)

pub from_more : (word bit rest : ℕ) → AreFrom word bit rest → AreFrom word (bit + trailing_zeros w64 rest + 1) (rest / 2 ^ trailing_zeros w64 rest / 2)
from_more word bit rest h i = bit_after rest (trailing_zeros w64 rest) i ∙ h (trailing_zeros w64 rest + suc i) ∙ ap (bit_at word) (omega arith)

pub set_at : (word bit rest : ℕ) → AreFrom word bit rest → 0 < rest → rest < 2 ^ 64 → bit_at word (bit + trailing_zeros w64 rest) ≡ 1
set_at word bit rest h some fits = sym (h (trailing_zeros w64 rest)) ∙ (bit_at-trailing_zeros w64 rest some fits).1

-- ---- common bits

pub common_marks : (s : List Bool) (words marks : List ℕ) → AreWordsOf s words → HaveCommon words marks ↔ ((column : ℕ) × HasColumn s column × (bit_of marks column ≡ true))
common_marks s words marks of_s = (
  λ h. (h.0, sym (of_s.bits h.0) ∙ h.1, h.2),
  λ h. (h.0, of_s.bits h.0 ∙ h.1, h.2),
)

-- Columns of two supports, word by word.
use Rattle.std.proofs.Common.{◌≡◌, ◌≢◌, ℕ, ◌+◌, ◌-◌, ◌*◌, ◌/◌, ◌%◌, ◌^◌, ◌<◌, ◌≤◌, min, max, true, eqb, List, length, get_or, set, ⊎_elim, sym, ◌∙◌, ap, subst, ◌⊎◌, inl, inr, arith, rules, bit_and, w64}
use Rattle.std.proofs.lemmas.Bool.{eq-eqb, ne_eqb, true≢false, cases_lt, cases_eq}
use Rattle.std.proofs.lemmas.Nat.{and_le_l}
use Rattle.std.proofs.lemmas.Nat.Bits.{bit_at-lt, bit_at-zero, bit_at_and, bit_at_or, bit_at_not, bit_at-pow_same, bit_at-pow_other, bit_at_above, bit_at_cat_low, bit_at_cat_high, bit_at-trailing_zeros}
use Rattle.std.specs.Prelude.{IsTrue, ◌↔◌, not}
use Rattle.std.specs.Int.{bit_at, bit_not, trailing_zeros}
use Rattle.support_bits.specs.Words.{bit_of}
use Rattle.support_bits.proofs.WordLemmas.{common_bit, no_common_bit, word_of_column, is_one, bit_of-column, within_words}
use Rattle.quad_condition.specs.Bits.{IsOfEither, word_of_either, word_ahead, HasPairAhead, IsMarkedIn, HasTwo, HasFrom, HasTwoBits}

set_at : (words : List ℕ) (k i : ℕ) → i < 64 → bit_at (get_or words k 0) i ≡ 1 → bit_of words (64 * k + i) ≡ true
set_at words k i h e = bit_of-column words k i h ∙ eq-eqb (bit_at (get_or words k 0) i) 1 e

-- the words of the union of both supports
either_one : (m n x y : ℕ) → m < 2 → n < 2 → max m n ≡ 1 → (m ≡ 1) ⊎ (n ≡ 1)
either_one m n x y p q e = ⊎_elim (λ h. inl h) (λ h. inr (omega arith)) (cases_eq m 1)

either_bit : (a b : List ℕ) (k i : ℕ) → i < 64 → bit_at (word_of_either a b k) i ≡ 1 → IsOfEither a b (64 * k + i)
either_bit a b k i h e =
    ⊎_elim (λ p. inl (set_at a k i h p)) (λ p. inr (set_at b k i h p))
    (either_one (bit_at (get_or a k 0) i) (bit_at (get_or b k 0) i) 0 0 (bit_at-lt (get_or a k 0) i) (bit_at-lt (get_or b k 0) i) (sym (bit_at_or (get_or a k 0) (get_or b k 0) i) ∙ e))

bit_of_either : (a b : List ℕ) (column : ℕ) → IsOfEither a b column → bit_at (word_of_either a b (column / 64)) (column % 64) ≡ 1
bit_of_either a b column (inl h) =
    let one : bit_at (get_or a (column / 64) 0) (column % 64) ≡ 1 = is_one (get_or a (column / 64) 0) (column % 64) h in
    bit_at_or (get_or a (column / 64) 0) (get_or b (column / 64) 0) (column % 64) ∙ max_left (bit_at (get_or a (column / 64) 0) (column % 64)) (bit_at (get_or b (column / 64) 0) (column % 64)) one (bit_at-lt (get_or b (column / 64) 0) (column % 64))
  where
    max_left : (m n : ℕ) → m ≡ 1 → n < 2 → max m n ≡ 1
    max_left m n e l = omega arith
bit_of_either a b column (inr h) =
    let one : bit_at (get_or b (column / 64) 0) (column % 64) ≡ 1 = is_one (get_or b (column / 64) 0) (column % 64) h in
    bit_at_or (get_or a (column / 64) 0) (get_or b (column / 64) 0) (column % 64) ∙ max_right (bit_at (get_or a (column / 64) 0) (column % 64)) (bit_at (get_or b (column / 64) 0) (column % 64)) one (bit_at-lt (get_or a (column / 64) 0) (column % 64))
  where
    max_right : (m n : ℕ) → n ≡ 1 → m < 2 → max m n ≡ 1
    max_right m n e l = omega arith

-- shifted words
shifted_right : (n d i : ℕ) → bit_at (n / 2 ^ d) i ≡ bit_at n (i + d)
shifted_right n d i =
    let parts : n ≡ n / 2 ^ d * 2 ^ d + n % 2 ^ d = omega (arith, positive d) in
    let back : (i + d) - d ≡ i = omega arith in
    sym (ap (λ m. bit_at m (i + d)) parts ∙ bit_at_cat_high (n / 2 ^ d) d (n % 2 ^ d) (i + d) (omega (arith, positive d)) (omega arith) ∙ ap (bit_at (n / 2 ^ d)) back)
  where
    positive : (k : ℕ) → 0 < 2 ^ k
    positive k = search rules

kept_below : (n i : ℕ) → i < 64 → bit_at (n % 2 ^ 64) i ≡ bit_at n i
kept_below n i h =
    let parts : n ≡ n / 2 ^ 64 * 2 ^ 64 + n % 2 ^ 64 = omega arith in
    sym (ap (λ m. bit_at m i) parts ∙ bit_at_cat_low (n / 2 ^ 64) 64 (n % 2 ^ 64) i h)

shifted_low : (n k i : ℕ) → i < k → bit_at (n * 2 ^ k) i ≡ 0
shifted_low n k i h = let e : n * 2 ^ k ≡ n * 2 ^ k + 0 = omega arith in ap (λ m. bit_at m i) e ∙ bit_at_cat_low n k 0 i h ∙ bit_at-zero i

shifted_high : (n k i : ℕ) → k ≤ i → bit_at (n * 2 ^ k) i ≡ bit_at n (i - k)
shifted_high n k i h = let e : n * 2 ^ k ≡ n * 2 ^ k + 0 = omega arith in ap (λ m. bit_at m i) e ∙ bit_at_cat_high n k 0 i (positive k) h
  where
    positive : (k : ℕ) → 0 < 2 ^ k
    positive k = search rules

max_zero : (m n : ℕ) → n ≡ 0 → max m n ≡ m
max_zero m n e = omega arith

zero_max : (m n : ℕ) → m ≡ 0 → max m n ≡ n
zero_max m n e = omega arith

ahead_low : (here next d i : ℕ) → 1 ≤ d → d < 64 → i + d < 64 → bit_at (word_ahead here next d) i ≡ bit_at here (i + d)
ahead_low here next d i some limited h =
    bit_at_or (here / 2 ^ d) (next * 2 ^ (64 - d) % 2 ^ 64) i
    ∙ max_zero (bit_at (here / 2 ^ d) i) (bit_at (next * 2 ^ (64 - d) % 2 ^ 64) i) (kept_below (next * 2 ^ (64 - d)) i (omega arith) ∙ shifted_low next (64 - d) i (omega arith))
    ∙ shifted_right here d i

ahead_high : (here next d i : ℕ) → here < 2 ^ 64 → 1 ≤ d → d < 64 → i < 64 → 64 ≤ i + d → bit_at (word_ahead here next d) i ≡ bit_at next ((i + d) - 64)
ahead_high here next d i fits some limited below h =
    let e : i - (64 - d) ≡ (i + d) - 64 = omega arith in
    bit_at_or (here / 2 ^ d) (next * 2 ^ (64 - d) % 2 ^ 64) i
    ∙ zero_max (bit_at (here / 2 ^ d) i) (bit_at (next * 2 ^ (64 - d) % 2 ^ 64) i) (shifted_right here d i ∙ bit_at_above here 64 (i + d) fits h)
    ∙ kept_below (next * 2 ^ (64 - d)) i below ∙ shifted_high next (64 - d) i (omega arith) ∙ ap (bit_at next) e

-- the bit d places further is that of the column d further
ahead_column : (a b : List ℕ) (k i d : ℕ) → word_of_either a b k < 2 ^ 64 → 1 ≤ d → d < 64 → i < 64 → bit_at (word_ahead (word_of_either a b k) (word_of_either a b (k + 1)) d) i ≡ 1
    → IsOfEither a b ((64 * k + i) + d)
ahead_column a b k i d fits some limited below e =
    ⊎_elim
    (λ h. let same : 64 * k + (i + d) ≡ (64 * k + i) + d = omega arith in
    subst (IsOfEither a b) same (either_bit a b k (i + d) h (sym (ahead_low (word_of_either a b k) (word_of_either a b (k + 1)) d i some limited h) ∙ e)))
    (λ h. let same : 64 * (k + 1) + ((i + d) - 64) ≡ (64 * k + i) + d = omega arith in
    subst (IsOfEither a b) same
    (either_bit a b (k + 1) ((i + d) - 64) (omega arith) (sym (ahead_high (word_of_either a b k) (word_of_either a b (k + 1)) d i fits some limited below h) ∙ e)))
    (cases_lt (i + d) 64)

column_ahead : (a b : List ℕ) (column d : ℕ) → word_of_either a b (column / 64) < 2 ^ 64 → 1 ≤ d → d < 64 → IsOfEither a b (column + d)
    → bit_at (word_ahead (word_of_either a b (column / 64)) (word_of_either a b (column / 64 + 1)) d) (column % 64) ≡ 1
column_ahead a b column d fits some limited h =
    ⊎_elim
    (λ l. let word : (column + d) / 64 ≡ column / 64 = omega arith in
    let bit : (column + d) % 64 ≡ column % 64 + d = omega arith in
    ahead_low (word_of_either a b (column / 64)) (word_of_either a b (column / 64 + 1)) d (column % 64) some limited l
    ∙ ap (bit_at (word_of_either a b (column / 64))) (sym bit) ∙ ap (λ k. bit_at (word_of_either a b k) ((column + d) % 64)) (sym word) ∙ bit_of_either a b (column + d) h)
    (λ l. let word : (column + d) / 64 ≡ column / 64 + 1 = omega arith in
    let bit : (column + d) % 64 ≡ (column % 64 + d) - 64 = omega arith in
    ahead_high (word_of_either a b (column / 64)) (word_of_either a b (column / 64 + 1)) d (column % 64) fits some limited (omega arith) l
    ∙ ap (bit_at (word_of_either a b (column / 64 + 1))) (sym bit) ∙ ap (λ k. bit_at (word_of_either a b k) ((column + d) % 64)) (sym word) ∙ bit_of_either a b (column + d) h)
    (cases_lt (column % 64 + d) 64)

-- pairs of columns d apart, word by word
abbrev pub pair_word : List ℕ → List ℕ → List ℕ → ℕ → ℕ → ℕ
pair_word mask a b d k = bit_and (bit_and (get_or mask k 0) (word_of_either a b k)) (word_ahead (word_of_either a b k) (word_of_either a b (k + 1)) d)

both_one : (m n : ℕ) → m < 2 → n < 2 → min m n ≡ 1 → (m ≡ 1) × (n ≡ 1)
both_one m n p q e = (omega arith, omega arith)

one_both : (m n : ℕ) → m ≡ 1 → n ≡ 1 → min m n ≡ 1
one_both m n p q = omega arith

and_parts_at : (m n i : ℕ) → bit_at (bit_and m n) i ≡ 1 → (bit_at m i ≡ 1) × (bit_at n i ≡ 1)
and_parts_at m n i e = both_one (bit_at m i) (bit_at n i) (bit_at-lt m i) (bit_at-lt n i) (sym (bit_at_and m n i) ∙ e)

and_at : (m n i : ℕ) → bit_at m i ≡ 1 → bit_at n i ≡ 1 → bit_at (bit_and m n) i ≡ 1
and_at m n i p q = bit_at_and m n i ∙ one_both (bit_at m i) (bit_at n i) p q

pub pair_at : (mask a b : List ℕ) (d k : ℕ) → get_or mask k 0 < 2 ^ 64 → word_of_either a b k < 2 ^ 64 → 1 ≤ d → d < 64 → pair_word mask a b d k ≢ 0 → HasPairAhead mask a b d
pair_at mask a b d k mask_fits fits some limited found =
    let m : ℕ = bit_and (get_or mask k 0) (word_of_either a b k) in
    let low : m ≤ get_or mask k 0 = and_le_l (get_or mask k 0) (word_of_either a b k) in
    let f = common_bit m (word_ahead (word_of_either a b k) (word_of_either a b (k + 1)) d) (omega arith) found in
    let p : (bit_at (get_or mask k 0) f.0 ≡ 1) × (bit_at (word_of_either a b k) f.0 ≡ 1) = and_parts_at (get_or mask k 0) (word_of_either a b k) f.0 f.2 in
    record {
      column = 64 * k + f.0;
      marked = set_at mask k f.0 f.1 p.0;
      here = either_bit a b k f.0 f.1 p.1;
      ahead = ahead_column a b k f.0 d fits some limited f.1 f.3;
    }

pub no_pair : (mask a b : List ℕ) (d : ℕ) → ((k : ℕ) → word_of_either a b k < 2 ^ 64) → 1 ≤ d → d < 64 → ((k : ℕ) → k < length mask → pair_word mask a b d k ≡ 0) → HasPairAhead mask a b d → ⊥
no_pair mask a b d fits some limited none h =
    let k : ℕ = h.column / 64 in
    let i : ℕ = h.column % 64 in
    no_common_bit (bit_and (get_or mask k 0) (word_of_either a b k)) (word_ahead (word_of_either a b k) (word_of_either a b (k + 1)) d) i (none k (within_words mask h.column h.marked))
    (and_at (get_or mask k 0) (word_of_either a b k) i (is_one (get_or mask k 0) i h.marked) (bit_of_either a b h.column h.here))
    (column_ahead a b h.column d (fits k) some limited h.ahead)

-- marked columns, word by word
abbrev pub marked_word : List ℕ → List ℕ → List ℕ → ℕ → ℕ
marked_word mask a b k = bit_and (get_or mask k 0) (word_of_either a b k)

marked_at : (mask a b : List ℕ) (k i : ℕ) → i < 64 → bit_at (marked_word mask a b k) i ≡ 1 → IsMarkedIn mask a b (64 * k + i)
marked_at mask a b k i h e =
    let p : (bit_at (get_or mask k 0) i ≡ 1) × (bit_at (word_of_either a b k) i ≡ 1) = and_parts_at (get_or mask k 0) (word_of_either a b k) i e in
    record { marked = set_at mask k i h p.0; here = either_bit a b k i h p.1 }

at_marked : (mask a b : List ℕ) (column : ℕ) → IsMarkedIn mask a b column → bit_at (marked_word mask a b (column / 64)) (column % 64) ≡ 1
at_marked mask a b column h =
    and_at (get_or mask (column / 64) 0) (word_of_either a b (column / 64)) (column % 64) (is_one (get_or mask (column / 64) 0) (column % 64) h.marked) (bit_of_either a b column h.here)

some_marked : (mask a b : List ℕ) (k : ℕ) → get_or mask k 0 < 2 ^ 64 → marked_word mask a b k ≢ 0 → (i : ℕ) × (i < 64) × (bit_at (marked_word mask a b k) i ≡ 1)
some_marked mask a b k fits some =
    let low : marked_word mask a b k ≤ get_or mask k 0 = and_le_l (get_or mask k 0) (word_of_either a b k) in
    let f = bit_at-trailing_zeros w64 (marked_word mask a b k) (omega (arith, some)) (omega arith) in
    (trailing_zeros w64 (marked_word mask a b k), f.0, f.1)

pub from_at : (mask a b : List ℕ) (from k : ℕ) → get_or mask k 0 < 2 ^ 64 → from ≤ k → marked_word mask a b k ≢ 0 → HasFrom mask a b from
from_at mask a b from k fits low some =
    let f = some_marked mask a b k fits some in
    record { column = 64 * k + f.0; late = subst (λ n. from ≤ n) (sym (word_of_column k f.0 f.1)) low; is_in = marked_at mask a b k f.0 f.1 f.2 }

nonzero_word : (n i : ℕ) → n ≡ 0 → bit_at n i ≡ 1 → ⊥
nonzero_word n i z e = let none : bit_at n i ≡ 0 = ap (λ m. bit_at m i) z ∙ bit_at-zero i in omega arith

pub none_from : (mask a b : List ℕ) (from : ℕ) → ((k : ℕ) → from ≤ k → k < length mask → marked_word mask a b k ≡ 0) → HasFrom mask a b from → ⊥
none_from mask a b from none h =
    nonzero_word (marked_word mask a b (h.column / 64)) (h.column % 64) (none (h.column / 64) h.late (within_words mask h.column h.is_in.marked)) (at_marked mask a b h.column h.is_in)

pub none_two : (mask a b : List ℕ) → ((k : ℕ) → k < length mask → marked_word mask a b k ≡ 0) → HasTwo mask a b → ⊥
none_two mask a b none h =
    nonzero_word (marked_word mask a b (h.first / 64)) (h.first % 64) (none (h.first / 64) (within_words mask h.first h.first_in.marked)) (at_marked mask a b h.first h.first_in)

-- two marked columns in the first word that is not 0, or one there and one in a later word
pub two_in_word : (mask a b : List ℕ) (k : ℕ) → HasTwoBits (marked_word mask a b k) → HasTwo mask a b
two_in_word mask a b k h = record {
  first = 64 * k + h.first;
  second = 64 * k + h.second;
  separate = λ same. h.separate (omega arith);
  first_in = marked_at mask a b k h.first h.first_below h.first_set;
  second_in = marked_at mask a b k h.second h.second_below h.second_set;
}

pub one_and_later : (mask a b : List ℕ) (k : ℕ) → get_or mask k 0 < 2 ^ 64 → marked_word mask a b k ≢ 0 → HasFrom mask a b (k + 1) → HasTwo mask a b
one_and_later mask a b k fits some h =
    let f = some_marked mask a b k fits some in
    let here : (64 * k + f.0) / 64 ≡ k = word_of_column k f.0 f.1 in
    let late : k + 1 ≤ h.column / 64 = h.late in
    record {
      first = 64 * k + f.0;
      second = h.column;
      separate = λ same. let e : (64 * k + f.0) / 64 ≡ h.column / 64 = ap (λ n. n / 64) same in omega arith;
      first_in = marked_at mask a b k f.0 f.1 f.2;
      second_in = h.is_in;
    }

pub two_at : (mask a b : List ℕ) (k : ℕ) → ((j : ℕ) → j < k → marked_word mask a b j ≡ 0) → HasTwo mask a b → HasTwoBits (marked_word mask a b k) ⊎ HasFrom mask a b (k + 1)
two_at mask a b k none h =
    ⊎_elim
    (λ same. ⊎_elim
    (λ also. inl (record {
      first = h.first % 64;
      second = h.second % 64;
      separate = λ e. h.separate (same_column h.first h.second (same ∙ sym also) e);
      first_below = omega arith;
      second_below = omega arith;
      first_set = ap (λ j. bit_at (marked_word mask a b j) (h.first % 64)) (sym same) ∙ at_marked mask a b h.first h.first_in;
      second_set = ap (λ j. bit_at (marked_word mask a b j) (h.second % 64)) (sym also) ∙ at_marked mask a b h.second h.second_in;
    }))
    (λ other. inr (record { column = h.second; late = later h.second h.second_in other; is_in = h.second_in }))
    (cases_eq (h.second / 64) k))
    (λ other. inr (record { column = h.first; late = later h.first h.first_in other; is_in = h.first_in }))
    (cases_eq (h.first / 64) k)
  where
    same_column : (c e : ℕ) → c / 64 ≡ e / 64 → c % 64 ≡ e % 64 → c ≡ e
    same_column c e p q = omega arith

    later : (column : ℕ) → IsMarkedIn mask a b column → column / 64 ≢ k → k + 1 ≤ column / 64
    later column m other =
        ⊎_elim (λ l. absurd (nonzero_word (marked_word mask a b (column / 64)) (column % 64) (none (column / 64) l) (at_marked mask a b column m)))
        (λ l. omega (arith, other)) (cases_lt (column / 64) k)

-- two bits of a word
pub two_bits : (word t : ℕ) → word < 2 ^ 64 → t < 64 → bit_at word t ≡ 1 → bit_and word (bit_not w64 (1 * 2 ^ t % 2 ^ 64)) ≢ 0 → HasTwoBits word
two_bits word t fits below one some =
    let power : ℕ = 1 * 2 ^ t % 2 ^ 64 in
    let f = common_bit word (bit_not w64 power) fits some in
    let e : bit_at power f.0 ≡ 0 = not_one (bit_at power f.0) (sym (bit_at_not w64 power f.0 (omega arith) f.1) ∙ f.3) in
    record {
      first = t;
      second = f.0;
      separate = λ same. nonzero_bit (bit_at power f.0) e (ap (bit_at power) (sym same) ∙ power_at t below);
      first_below = below;
      second_below = f.1;
      first_set = one;
      second_set = f.2;
    }
  where
    not_one : (n : ℕ) → 1 - n ≡ 1 → n ≡ 0
    not_one n e = omega arith

    nonzero_bit : (n : ℕ) → n ≡ 0 → n ≡ 1 → ⊥
    nonzero_bit n e h = omega arith

    power_at : (t : ℕ) → t < 64 → bit_at (1 * 2 ^ t % 2 ^ 64) t ≡ 1
    power_at t l = kept_below (1 * 2 ^ t) t l ∙ let e : 1 * 2 ^ t ≡ 2 ^ t = omega arith in ap (λ n. bit_at n t) e ∙ bit_at-pow_same t

pub no_two_bits : (word t : ℕ) → t < 64 → bit_and word (bit_not w64 (1 * 2 ^ t % 2 ^ 64)) ≡ 0 → HasTwoBits word → ⊥
no_two_bits word t below none h =
    ⊎_elim
    (λ same. at_other h.second h.second_below h.second_set (λ e. h.separate (same ∙ sym e)))
    (λ other. at_other h.first h.first_below h.first_set other)
    (cases_eq h.first t)
  where
    power : ℕ
    power = 1 * 2 ^ t % 2 ^ 64

    at_other : (i : ℕ) → i < 64 → bit_at word i ≡ 1 → i ≢ t → ⊥
    at_other i l set other =
        let e : 1 * 2 ^ t ≡ 2 ^ t = omega arith in
        let zero_bit : bit_at power i ≡ 0 = kept_below (1 * 2 ^ t) i l ∙ ap (λ n. bit_at n i) e ∙ bit_at-pow_other t i other in
        no_common_bit word (bit_not w64 power) i none set (bit_at_not w64 power i (omega arith) l ∙ ap (λ n. 1 - n) zero_bit)

-- whether a bit other than the lowest one is set
pub two_bits_iff : (word : ℕ) → 0 < word → word < 2 ^ 64 → IsTrue (not (eqb (bit_and word (bit_not w64 (1 * 2 ^ trailing_zeros w64 word % 2 ^ 64))) 0)) ↔ HasTwoBits word
two_bits_iff word some fits =
    let t : ℕ = trailing_zeros w64 word in
    let rest : ℕ = bit_and word (bit_not w64 (1 * 2 ^ t % 2 ^ 64)) in
    let f = bit_at-trailing_zeros w64 word some fits in (
      (λ h. two_bits word t fits f.0 f.1 (λ z. true≢false (sym h ∙ ap not (eq-eqb rest 0 z)))),
      (λ h. ap not (ne_eqb rest 0 (λ z. no_two_bits word t f.0 z h))),
    )

-- a fact of each number below k, and of k
pub below_and_at : (P : ℕ → Type 0) (k : ℕ) → ((j : ℕ) → j < k → P j) → P k → (j : ℕ) → j < k + 1 → P j
below_and_at P k below at j h = ⊎_elim (λ l. below j l) (λ l. let e : k ≡ j = omega arith in subst P e at) (cases_lt j k)

pub pair_is : (mask a b : List ℕ) (d k h n r : ℕ) → h ≡ word_of_either a b k → n ≡ word_of_either a b (k + 1) → r ≡ word_ahead h n d → bit_and (bit_and (get_or mask k 0) h) r ≡ pair_word mask a b d k
pair_is mask a b d k h n r e f g =
    let m : ℕ = get_or mask k 0 in
    ap (λ w. bit_and (bit_and m h) w) g ∙ ap (λ w. bit_and (bit_and m w) (word_ahead w n d)) e ∙ ap (λ w. bit_and (bit_and m (word_of_either a b k)) (word_ahead (word_of_either a b k) w d)) f

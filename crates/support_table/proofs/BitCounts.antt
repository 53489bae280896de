-- The number of ones of two words is counted bit by bit, and the bits of words are the columns of their supports.
use Rattle.std.proofs.Common.{◌≡◌, ℕ, zero, suc, ◌+◌, ◌*◌, ◌-◌, ◌/◌, ◌%◌, ◌^◌, ◌<◌, ◌≤◌, max, Bool, false, cond, ◌||◌, eqb, ltb, List, length, get_or, refl, sym, ap, ap₂, ◌∙◌, arith, bit_or}
use Rattle.std.specs.Int.{bit_at}
use Rattle.std.specs.Int.Count.{ones}
use Rattle.std.specs.List.{count_by, range_with_len}
use Rattle.std.proofs.lemmas.List.{get_or_past, length-map}
use Rattle.std.proofs.lemmas.List.Sums.{count_by-le-length}
use Rattle.std.proofs.lemmas.List.FromFn.{length-range_with_len}
use Rattle.std.proofs.lemmas.Nat.{ones_cat}
use Rattle.std.proofs.lemmas.Nat.Bits.{bit_at_lowest, bit_at-suc, bit_at_or, bit_at-lt}
use Rattle.support_bits.specs.Columns.{support_of}
use Rattle.support_bits.specs.Words.{bit_of, AreWordsOf}
use Rattle.support_bits.proofs.WordLemmas.{get_or-support_of, bit_of-column}
use Rattle.cone_laws.specs.Unions.{union_size}
use Rattle.cone_laws.proofs.Counts.{count_cons}
use Rattle.support_table.specs.Counts.{bits_in_either, columns_in_either}

-- ---- counts over ranges

count_same : (p q : ℕ → Bool) (a n : ℕ) → ((j : ℕ) → a ≤ j → j < a + n → p j ≡ q j) → count_by p (range_with_len a n) ≡ count_by q (range_with_len a n)
count_same p q a zero h = refl
count_same p q a (suc n) h = let e : cond {A = ℕ} (p a) 1 0 ≡ cond (q a) 1 0 = ap (λ b. cond {A = ℕ} b 1 0) (h a (omega arith) (omega arith)) in
    omega (arith, e, count_cons p a (range_with_len (a + 1) n), count_cons q a (range_with_len (a + 1) n), count_same p q (a + 1) n (λ j l m. h j (omega arith) (omega arith)))

count_from : (p : ℕ → Bool) (a b c n : ℕ) → a + b ≡ c → count_by p (range_with_len c n) ≡ count_by (λ j. p (a + j)) (range_with_len b n)
count_from p a b c zero h = refl
count_from p a b c (suc n) h = let e : cond {A = ℕ} (p c) 1 0 ≡ cond (p (a + b)) 1 0 = ap (λ j. cond {A = ℕ} (p j) 1 0) (sym h) in
    omega (arith, e, count_cons p c (range_with_len (c + 1) n), count_cons (λ j. p (a + j)) b (range_with_len (b + 1) n), count_from p a (b + 1) (c + 1) n (omega arith))

count_append : (p : ℕ → Bool) (a m n c : ℕ) → a + m ≡ c → count_by p (range_with_len a (m + n)) ≡ count_by p (range_with_len a m) + count_by p (range_with_len c n)
count_append p a zero n c h = let e : a ≡ c = omega arith in let f : 0 + n ≡ n = omega arith in let g : count_by p (range_with_len a (0 + n)) ≡ count_by p (range_with_len c n) = ap₂ (λ i k. count_by p (range_with_len i k)) e f in omega (arith, g)
count_append p a (suc m) n c h = let d : suc m + n ≡ suc (m + n) = omega arith in let e : count_by p (range_with_len a (suc m + n)) ≡ count_by p (range_with_len a (suc (m + n))) = ap (λ k. count_by p (range_with_len a k)) d in
    omega (arith, e, count_cons p a (range_with_len (a + 1) (m + n)), count_cons p a (range_with_len (a + 1) m), count_append p (a + 1) m n c (omega arith))

count_none : (p : ℕ → Bool) (a n : ℕ) → ((j : ℕ) → a ≤ j → p j ≡ false) → count_by p (range_with_len a n) ≡ 0
count_none p a zero h = refl
count_none p a (suc n) h = let e : cond {A = ℕ} (p a) 1 0 ≡ 0 = ap (λ b. cond {A = ℕ} b 1 0) (h a (omega arith)) in
    omega (arith, e, count_cons p a (range_with_len (a + 1) n), count_none p (a + 1) n (λ j l. h j (omega arith)))

-- ---- the ones of a word

low_bit : (r : ℕ) → r < 2 → ones r ≡ cond (eqb r 1) 1 0
unfolding ones
low_bit zero h = refl
low_bit (suc zero) h = refl
low_bit (suc (suc r)) h = absurd (omega arith)

half_below : (n k : ℕ) → n < 2 ^ suc k → n / 2 < 2 ^ k
half_below n k h = let e : 2 ^ suc k ≡ 2 * 2 ^ k = omega arith in omega arith

no_ones : ones 0 ≡ 0
unfolding ones
no_ones = refl

pub ones_counted : (k n : ℕ) → n < 2 ^ k → ones n ≡ count_by (λ i. eqb (bit_at n i) 1) (range_with_len 0 k)
ones_counted zero n h = let z : n ≡ 0 = omega arith in ap ones z ∙ no_ones
ones_counted (suc k) n h =
    let split : ones n ≡ ones (n / 2 * 2 ^ 1 + n % 2) = ap ones (omega arith) in
    let parts : ones (n / 2 * 2 ^ 1 + n % 2) ≡ ones (n / 2) + ones (n % 2) = ones_cat 1 (n / 2) (n % 2) (omega arith) in
    let low : ones (n % 2) ≡ cond (eqb (n % 2) 1) 1 0 = low_bit (n % 2) (omega arith) in
    let lowest : cond {A = ℕ} (eqb (bit_at n 0) 1) 1 0 ≡ cond (eqb (n % 2) 1) 1 0 = ap (λ b. cond {A = ℕ} (eqb b 1) 1 0) (bit_at_lowest n) in
    let high : ones (n / 2) ≡ count_by (λ i. eqb (bit_at (n / 2) i) 1) (range_with_len 0 k) = ones_counted k (n / 2) (half_below n k h) in
    let moved : count_by (λ i. eqb (bit_at n i) 1) (range_with_len 1 k) ≡ count_by (λ j. eqb (bit_at n (1 + j)) 1) (range_with_len 0 k) =
    count_from (λ i. eqb (bit_at n i) 1) 1 0 1 k (omega arith) in
    let same : count_by (λ j. eqb (bit_at n (1 + j)) 1) (range_with_len 0 k) ≡ count_by (λ i. eqb (bit_at (n / 2) i) 1) (range_with_len 0 k) =
    count_same _ _ 0 k (λ j l m. ap (λ b. eqb b 1) (ap (bit_at n) {x = 1 + j} {y = suc j} (omega arith) ∙ bit_at-suc n j)) in
    omega (arith, split, parts, low, lowest, high, moved, same, count_cons (λ i. eqb (bit_at n i) 1) 0 (range_with_len 1 k))

-- ---- word by word

either_bit : (x y : ℕ) → x < 2 → y < 2 → eqb (max x y) 1 ≡ (eqb x 1 || eqb y 1)
either_bit zero zero h l = refl
either_bit zero (suc zero) h l = refl
either_bit (suc zero) zero h l = refl
either_bit (suc zero) (suc zero) h l = refl
either_bit (suc (suc x)) y h l = absurd (omega arith)
either_bit x (suc (suc y)) h l = absurd (omega arith)

pub ones_of_word : (a b : List ℕ) (k : ℕ) → bit_or (get_or a k 0) (get_or b k 0) < 2 ^ 64 →
    ones (bit_or (get_or a k 0) (get_or b k 0)) ≡ count_by (λ column. bit_of a column || bit_of b column) (range_with_len (64 * k) 64)
ones_of_word a b k fits = ones_counted 64 (bit_or (get_or a k 0) (get_or b k 0)) fits
    ∙ count_same _ (λ j. bit_of a (64 * k + j) || bit_of b (64 * k + j)) 0 64 (λ i l m. ap (λ n. eqb n 1) (bit_at_or (get_or a k 0) (get_or b k 0) i)
    ∙ either_bit (bit_at (get_or a k 0) i) (bit_at (get_or b k 0) i) (bit_at-lt (get_or a k 0) i) (bit_at-lt (get_or b k 0) i)
    ∙ ap₂ (λ x y. x || y) (sym (bit_of-column a k i (omega arith))) (sym (bit_of-column b k i (omega arith))))
    ∙ sym (count_from (λ column. bit_of a column || bit_of b column) (64 * k) 0 (64 * k) 64 (omega arith))

same_bits : (m n : ℕ) (a b : List ℕ) → m ≡ n → bits_in_either m a b ≡ bits_in_either n a b
same_bits m n a b h = ap (λ k. bits_in_either k a b) h

pub bits_more : (a b : List ℕ) (k : ℕ) → bit_or (get_or a k 0) (get_or b k 0) < 2 ^ 64 →
    bits_in_either (64 * (k + 1)) a b ≡ bits_in_either (64 * k) a b + ones (bit_or (get_or a k 0) (get_or b k 0))
bits_more a b k fits = let e : bits_in_either (64 * (k + 1)) a b ≡ bits_in_either (64 * k + 64) a b = same_bits (64 * (k + 1)) (64 * k + 64) a b (omega arith) in
    omega (arith, e, count_append (λ column. bit_of a column || bit_of b column) 0 (64 * k) 64 (64 * k) (omega arith), ones_of_word a b k fits)

pub bits_within : (n : ℕ) (a b : List ℕ) → bits_in_either n a b ≤ n
bits_within n a b = omega (arith, count_by-le-length (λ column. bit_of a column || bit_of b column) (range_with_len 0 n), length-range_with_len 0 n)

-- ---- the columns

past_either : (a b : List Bool) (j : ℕ) → length a ≡ length b → length a ≤ j → (get_or a j false || get_or b j false) ≡ false
past_either a b j same l = ap₂ (λ x y. x || y) (get_or_past a j false l) (get_or_past b j false (omega arith))

pub columns_from_bits : (s t : List Bool) (a b : List ℕ) → AreWordsOf s a → AreWordsOf t b → length s ≡ length t → bits_in_either (64 * length a) a b ≡ columns_in_either s t
columns_from_bits s t a b ha hb same = let long : 64 * length a ≡ length s + (64 * length a - length s) = omega (arith, ha.count) in
    let e : bits_in_either (64 * length a) a b ≡ bits_in_either (length s + (64 * length a - length s)) a b = same_bits _ _ a b long in
    let split = count_append (λ column. bit_of a column || bit_of b column) 0 (length s) (64 * length a - length s) (length s) (omega arith) in
    let rest : count_by (λ column. bit_of a column || bit_of b column) (range_with_len (length s) (64 * length a - length s)) ≡ 0 =
    count_none (λ column. bit_of a column || bit_of b column) (length s) (64 * length a - length s)
    (λ j l. ap₂ (λ x y. x || y) (ha.bits j) (hb.bits j) ∙ past_either s t j same l) in
    let here : bits_in_either (length s) a b ≡ columns_in_either s t =
    count_same (λ column. bit_of a column || bit_of b column) (λ column. get_or s column false || get_or t column false) 0 (length s)
    (λ j l m. ap₂ (λ x y. x || y) (ha.bits j) (hb.bits j)) in
    omega (arith, e, split, rest, here)

pub columns_of_vectors : (s t : List Bool) (u w : List ℕ) → s ≡ support_of u → t ≡ support_of w → columns_in_either s t ≡ union_size (length u) u w
columns_of_vectors s t u w e f = ap₂ columns_in_either e f ∙ ap (λ n. count_by (λ column. get_or (support_of u) column false || get_or (support_of w) column false) (range_with_len 0 n)) (length-map u (λ entry. ltb 0 entry))
    ∙ count_same _ _ 0 (length u) (λ j l m. ap₂ (λ x y. x || y) (get_or-support_of u j) (get_or-support_of w j))

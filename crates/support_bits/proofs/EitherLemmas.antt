-- Lemmas on words that have the bits of two lists of words.
use Rattle.std.proofs.Common.{◌≡◌, ℕ, ◌+◌, ◌/◌, ◌%◌, ◌<◌, ◌≤◌, ◌||◌, max, false, eqb, List, length, get_or, set, length-set, replicate, get_or-set_other, get_or-set_same, ⊎_elim, sym, ◌∙◌, ap, ap₂, refl, arith, bit_or}
use Rattle.std.proofs.lemmas.Bool.{cases_lt, cases_eq}
use Rattle.std.proofs.lemmas.List.{get_or_past, ext_get_or, get_or-replicate, length-replicate}
use Rattle.std.proofs.lemmas.List.FromFn.{get_or-map-range_with_len}
use Rattle.std.proofs.lemmas.Nat.Bits.{bit_at-lt, bit_at-zero, bit_at_or}
use Rattle.std.specs.Int.{bit_at}
use Rattle.support_bits.specs.Columns.{IsUnion}
use Rattle.support_bits.specs.Words.{bit_of, spelled, IsPadded, AreEither}
use Rattle.support_bits.proofs.WordLemmas.{length-spelled, get_or-spelled}

-- the words below k have the bits of both, and the others are those of a
pub record AreEitherBelow (k : ℕ) (a b words : List ℕ) : Type 0 where
  pub count : length words ≡ length a
  pub below : (j : ℕ) → j < k → get_or words j 0 ≡ bit_or (get_or a j 0) (get_or b j 0)
  pub above : (j : ℕ) → k ≤ j → get_or words j 0 ≡ get_or a j 0

pub either_none : (a b : List ℕ) → AreEitherBelow 0 a b a
either_none a b = record { count = refl; below = λ j h. absurd (omega arith); above = λ j h. refl }

pub either_more : (k : ℕ) (a b words : List ℕ) (n : ℕ) → AreEitherBelow k a b words → k < length a → n ≡ bit_or (get_or a k 0) (get_or b k 0) → AreEitherBelow (k + 1) a b (set words k n)
either_more k a b words n h within is = record {
  count = length-set words k n ∙ h.count;
  below = λ j less. ⊎_elim
      (λ earlier. get_or-set_other words k j n 0 (omega arith) ∙ h.below j earlier)
      (λ last. let e : j ≡ k = omega arith in ap (λ i. get_or (set words k n) i 0) e ∙ get_or-set_same words k n 0 (omega (arith, h.count)) ∙ is ∙ ap (λ i. bit_or (get_or a i 0) (get_or b i 0)) (sym e))
      (cases_lt j k);
  above = λ j more. get_or-set_other words k j n 0 (omega arith) ∙ h.above j (omega arith);
}

-- a bit of two words
bit_of_either : (m n i : ℕ) → eqb (bit_at (bit_or m n) i) 1 ≡ (eqb (bit_at m i) 1 || eqb (bit_at n i) 1)
bit_of_either m n i = ap (λ k. eqb k 1) (bit_at_or m n i) ∙ greater (bit_at m i) (bit_at n i) (bit_at-lt m i) (bit_at-lt n i)
  where
    one_of : (m n : ℕ) → m ≡ 1 → n < 2 → eqb (max m n) 1 ≡ (eqb m 1 || eqb n 1)
    one_of m n is less = let e : max m n ≡ 1 = omega arith in rw (e, is) refl

    other_of : (m n : ℕ) → m ≡ 0 → eqb (max m n) 1 ≡ (eqb m 1 || eqb n 1)
    other_of m n is = let e : max m n ≡ n = omega arith in rw (e, is) refl

    greater : (m n : ℕ) → m < 2 → n < 2 → eqb (max m n) 1 ≡ (eqb m 1 || eqb n 1)
    greater m n m_less n_less = ⊎_elim (λ one. one_of m n one n_less) (λ none. other_of m n (omega (arith, none))) (cases_eq m 1)

pub either_from_all : (k : ℕ) (a b words : List ℕ) → AreEitherBelow k a b words → length a ≤ k → length b ≤ k → AreEither a b words
either_from_all k a b words h a_all b_all = record {
  count = h.count;
  bits = λ column. ap (λ n. eqb (bit_at n (column % 64)) 1) (whole (column / 64)) ∙ bit_of_either (get_or a (column / 64) 0) (get_or b (column / 64) 0) (column % 64);
}
  where
    whole : (j : ℕ) → get_or words j 0 ≡ bit_or (get_or a j 0) (get_or b j 0)
    whole j = ⊎_elim (λ less. h.below j less)
        (λ exceeded. h.above j exceeded ∙ get_or_past a j 0 (omega arith) ∙ sym (ap (λ n. bit_or n (get_or b j 0)) (get_or_past a j 0 (omega arith)) ∙ ap (bit_or 0) (get_or_past b j 0 (omega arith))))
        (cases_lt j k)

-- ---- supports

zero_word : (n j : ℕ) → get_or {A = ℕ} (replicate n 0) j 0 ≡ 0
zero_word n j = let nothing : ℕ = 0 in ⊎_elim (λ less. get_or-replicate n j nothing nothing less)
    (λ exceeded. get_or_past (replicate n nothing) j nothing (let e = length-replicate n nothing in omega (arith, e))) (cases_lt j n)

-- words in which no bit is set spell the empty support
pub none_spelled : (columns n : ℕ) (words : List ℕ) → words ≡ replicate n 0 → spelled columns words ≡ replicate columns false
none_spelled columns n words is =
    ext_get_or false (spelled columns words) (replicate columns false) (length-spelled columns words ∙ sym (length-replicate columns false))
    (λ k less. get_or-map-range_with_len (bit_of words) 0 columns k k false (omega (arith, less, length-spelled columns words)) (omega arith) ∙ no_bit k ∙ sym (get_or-replicate columns k false false (omega (arith, less, length-spelled columns words))))
  where
    no_bit : (column : ℕ) → bit_of words column ≡ false
    no_bit column = ap (λ n. eqb (bit_at n (column % 64)) 1) (ap (λ ws. get_or ws (column / 64) 0) is ∙ zero_word n (column / 64)) ∙ ap (λ n. eqb n 1) (bit_at-zero (column % 64))

module _ (m n : ℕ) (a b words : List ℕ) (same : m ≡ n) (a_padded : IsPadded m a) (b_padded : IsPadded n b) (either : AreEither a b words) where
  pub either_padded : IsPadded m words
  either_padded = record {
    count = either.count ∙ a_padded.count;
    unused = λ column exceeded. either.bits column ∙ ap₂ (λ x y. x || y) (a_padded.unused column exceeded) (b_padded.unused column (omega arith));
  }

  pub union_spelled : IsUnion (spelled m a) (spelled n b) (spelled m words)
  union_spelled = record {
    count = length-spelled m words ∙ sym (length-spelled m a);
    each = λ column. get_or-spelled m words either_padded column ∙ either.bits column ∙ ap₂ (λ x y. x || y) (sym (get_or-spelled m a a_padded column)) (sym (get_or-spelled n b b_padded column));
  }

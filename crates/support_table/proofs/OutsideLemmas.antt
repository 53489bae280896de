-- Outer rays that lack one, or two, of some columns.
use Rattle.std.proofs.Common.{◌≡◌, ℕ, ◌+◌, ◌-◌, ◌*◌, ◌/◌, ◌%◌, ◌^◌, ◌<◌, ◌≤◌, inl, inr, Bool, true, List, [], ◌∷◌, ◌++◌, length, length-append, get_or, set, length-set, get_or-set_same, get_or-set_other, w64, bit_and, bit_or, refl, subst, sym, ap, ◌∙◌, arith}
use Rattle.std.specs.Int.{bit_at}
use Rattle.std.proofs.lemmas.Bool.{cases_eq, cases_lt, eq-eqb}
use Rattle.std.proofs.lemmas.List.{get_or_default, get_or_append_left, get_or_push}
use Rattle.std.proofs.lemmas.Nat.{pow-add}
use Rattle.std.proofs.lemmas.Nat.Bits.{bit_at-zero, bit_at_set_other}
use Rattle.support_bits.specs.Columns.{HasColumn}
use Rattle.support_bits.specs.Words.{bit_of, AreWordsOf}
use Rattle.support_bits.proofs.WordLemmas.{bit_of-column}
use Rattle.support_table.specs.Masks.{IsBitSet, IsOutsideAdded}
use Rattle.support_table.specs.Outside.{outside_at, IsOutside, IsBothOf, AreOutsidesPushed, IsByteOutsideAppended, AreByteOutsides, AreOutsidesOfWord, HaveTwo}
use Rattle.support_table.specs.declared.outside.Outside.{Outside}
use Rattle.support_table.proofs.BitLemmas.{either_set, both_set, bit_within, old_bit, new_bit, byte_bit, byte_fits}

-- ---- a bit is set for the columns that are not in a support

pub outside_none : (columns : List Bool) (bit : ℕ) (old : List ℕ) → IsOutsideAdded columns bit old old
outside_none columns bit old = record { count = refl; found = λ column b one. inl one }

pub outside_set : (columns : List Bool) (bit n : ℕ) (old new : List ℕ) (m : ℕ) → IsOutsideAdded columns bit old new → n < length new → bit < 64 → ¬ HasColumn columns n → m ≡ bit_or (get_or new n 0) (1 * 2 ^ bit % 2 ^ 64) → IsOutsideAdded columns bit old (set new n m)
outside_set columns bit n old new m h within fits none is = record {
  count = length-set new n m ∙ h.count;
  found = λ column b one. elim (cases_eq column n) [
    | inl e ↦ elim (cases_eq b bit) [
      | inl same ↦ inr (same, subst (λ k. ¬ HasColumn columns k) (sym e) none)
      | inr other ↦ h.found column b (subst (λ j. IsBitSet new j b) (sym e) (sym (bit_at_set_other w64 (get_or new n 0) bit fits b other) ∙ sym (ap (λ k. bit_at k b) (ap (λ j. get_or (set new n m) j 0) e ∙ get_or-set_same new n m 0 within ∙ is)) ∙ one))
    ]
    | inr differs ↦ h.found column b (sym (ap (λ k. bit_at k b) (get_or-set_other new n column m 0 differs)) ∙ one)
  ];
}

-- ---- two sets of columns

pub both_of : (a b : Outside) → IsBothOf a b (record { one = bit_or a.one b.one; two = bit_or (bit_or a.two b.two) (bit_and a.one b.one) })
both_of a b = record {
  one = λ k is. either_set a.one b.one k is;
  two = λ k is. elim (either_set (bit_or a.two b.two) (bit_and a.one b.one) k is) [
    | inl either ↦ elim (either_set a.two b.two k either) [ inl one ↦ inl one | inr other ↦ inr (inl other) ]
    | inr common ↦ inr (inr (both_set a.one b.one k common))
  ];
}

-- the entry of no columns
abbrev pub no_columns : Outside
no_columns = record { one = 0; two = 0 }

-- ---- entries with one column more

module _ (mask start : ℕ) (old : List Outside) where
  pub pushed_none : AreOutsidesPushed mask start 0 old old
  pushed_none = record {
    count_is = omega arith;
    kept = λ k less. refl;
    each = λ m less. absurd (omega arith);
  }

  pub pushed_more : (n : ℕ) (entry last : Outside) (new : List Outside) → AreOutsidesPushed mask start n old new → start + n < length old → entry ≡ get_or new (start + n) entry →
      IsBothOf entry (record { one = mask; two = 0 }) last → AreOutsidesPushed mask start (n + 1) old (new ++ last ∷ [])
  pushed_more n entry last new h within entry_is both =
      let count = h.count_is in
      let column : Outside = record { one = mask; two = 0 } in record {
        count_is = length-append new (last ∷ []) ∙ omega (arith, count);
        kept = λ k less. get_or_append_left new (last ∷ []) no_columns k (omega (arith, count)) ∙ h.kept k less;
        each = λ m less. elim (cases_lt m n) [
          | inl early ↦ subst (IsBothOf (outside_at old (start + m)) column) (sym (get_or_append_left new (last ∷ []) no_columns (length old + m) (omega (arith, count)))) (h.each m early)
          | inr exceeded ↦
              let e : m ≡ n = omega arith in
              let is : entry ≡ outside_at old (start + m) = entry_is ∙ get_or_default new (start + n) entry no_columns (omega (arith, count, within)) ∙ h.kept (start + n) within ∙ ap (λ k. outside_at old (start + k)) (sym e) in
              subst (IsBothOf (outside_at old (start + m)) column) (sym (get_or_push new last no_columns (length old + m) (omega (arith, count, e)))) (subst (λ a. IsBothOf a column last) is both)
        ];
      }

-- ---- the values of a byte

module _ (masks : List ℕ) (first : ℕ) where
  pub lack_none : IsOutside masks first 0 no_columns
  lack_none = record {
    one = λ b is. absurd (let z = bit_at-zero b in omega (arith, z, is));
    two = λ b is. absurd (let z = bit_at-zero b in omega (arith, z, is));
  }

  pub lack_with : (m j : ℕ) (entry it : Outside) → m < 2 ^ j → j < 64 → IsOutside masks first m entry → IsBothOf entry (record { one = get_or masks (first + j) 0; two = 0 }) it → IsOutside masks first (2 ^ j + m) it
  lack_with m j entry it fits within h both = record {
    one = λ b is. elim (both.one b is) [
      | inl old ↦ let f = h.one b old in (f.0, f.1, old_bit m j fits f.0 f.2, f.3)
      | inr new ↦ (j, within, new_bit m j fits, new)
    ];
    two = λ b is. elim (both.two b is) [
      | inl old ↦ let f = h.two b old in (f.0, f.1, f.2, f.3, old_bit m j fits f.0 f.4, old_bit m j fits f.1 f.5, f.6, f.7)
      | inr more ↦ elim more [
        | inl none ↦ absurd (let z = bit_at-zero b in omega (arith, z, none))
        | inr last ↦ let f = h.one b last.0 in (f.0, j, bit_within m j f.0 fits f.2, within, old_bit m j fits f.0 f.2, new_bit m j fits, f.3, last.1)
      ]
    ];
  }

  -- the table has the entries of the values below 2^j
  pub record IsByteBelow (j : ℕ) (old new : List Outside) : Type 0 where
    pub count : length new ≡ length old + 2 ^ j
    pub kept : (k : ℕ) → k < length old → outside_at new k ≡ outside_at old k
    pub each : (m : ℕ) → m < 2 ^ j → IsOutside masks first m (outside_at new (length old + m))

  pub byte_none : (old : List Outside) → IsByteBelow 0 old (old ++ no_columns ∷ [])
  byte_none old = record {
    count = length-append old (no_columns ∷ []);
    kept = λ k less. get_or_append_left old (no_columns ∷ []) no_columns k less;
    each = λ m less. let e : m ≡ 0 = omega arith in
        subst (λ k. IsOutside masks first k (outside_at (old ++ no_columns ∷ []) (length old + k))) (sym e) (subst (IsOutside masks first 0) (sym (get_or_push old no_columns no_columns (length old + 0) (omega arith))) lack_none);
  }

  pub byte_more : (j mask start count : ℕ) (old mid new : List Outside) → IsByteBelow j old mid → j < 8 → mask ≡ get_or masks (first + j) 0 → start ≡ length old → count ≡ 2 ^ j → AreOutsidesPushed mask start count mid new → IsByteBelow (j + 1) old new
  byte_more j mask start count old mid new h within mask_is start_is count_is p =
      let long = h.count in
      let longer = p.count_is in
      let double : 2 ^ (j + 1) ≡ 2 ^ j * 2 = pow-add 2 j 1 in record {
        count = omega (arith, long, longer, count_is, double);
        kept = λ k less. p.kept k (omega (arith, long)) ∙ h.kept k less;
        each = λ m less. elim (cases_lt m (2 ^ j)) [
          | inl early ↦ subst (IsOutside masks first m) (sym (p.kept (length old + m) (omega (arith, long)))) (h.each m early)
          | inr exceeded ↦
              let k = m - 2 ^ j in
              let e : 2 ^ j + k ≡ m = omega arith in
              let at : length mid + k ≡ length old + m = omega (arith, long, e) in
              let small : k < 2 ^ j = omega (arith, double) in
              let both = p.each k (omega (arith, count_is, small)) in
              subst (λ i. IsOutside masks first i (outside_at new (length old + m))) e
              (lack_with k j (outside_at mid (length old + k)) (outside_at new (length old + m)) small (omega arith) (h.each k small)
              (subst (λ i. IsBothOf (outside_at mid (length old + k)) (record { one = get_or masks (first + j) 0; two = 0 }) (outside_at new i)) at
              (subst (λ n. IsBothOf (outside_at mid (length old + k)) (record { one = n; two = 0 }) (outside_at new (length mid + k))) mask_is
              (subst (λ i. IsBothOf (outside_at mid (i + k)) (record { one = mask; two = 0 }) (outside_at new (length mid + k))) start_is both))))
        ];
      }

  pub byte_all : (j : ℕ) (old new : List Outside) → IsByteBelow j old new → j ≡ 8 → IsByteOutsideAppended masks first old new
  byte_all j old new h all = let all_is : 2 ^ j ≡ 256 = ap (λ i. 2 ^ i) all in record {
    count = h.count ∙ ap (λ n. length old + n) all_is;
    kept = h.kept;
    each = λ m less. h.each m (omega (arith, all_is));
  }

-- ---- byte by byte

module _ (masks : List ℕ) where
  pub bytes_none : (table : List Outside) → table ≡ [] → AreByteOutsides masks 0 table
  bytes_none table none = record {
    count = ap length none;
    each = λ i m less. absurd (omega arith);
  }

  pub bytes_more : (n first : ℕ) (old new : List Outside) → AreByteOutsides masks n old → first ≡ 8 * n → IsByteOutsideAppended masks first old new → AreByteOutsides masks (n + 1) new
  bytes_more n first old new h first_is more =
      let count = h.count in
      let longer = more.count in record {
        count = omega (arith, count, longer);
        each = λ i m less small. elim (cases_lt i n) [
          | inl early ↦ subst (IsOutside masks (8 * i) m) (sym (more.kept (256 * i + m) (omega (arith, count)))) (h.each i m early small)
          | inr exceeded ↦
              let at : length old + m ≡ 256 * i + m = omega (arith, count) in
              let column : first ≡ 8 * i = omega (arith, first_is) in
              subst (λ k. IsOutside masks k m (outside_at new (256 * i + m))) column (subst (λ k. IsOutside masks first m (outside_at new k)) at (more.each m small))
        ];
      }

  pub bytes_of_word : (bytes k : ℕ) (table : List Outside) → AreByteOutsides masks bytes table → 8 * k + 8 ≤ bytes → AreOutsidesOfWord masks (64 * k) (2048 * k) table
  bytes_of_word bytes k table h within i m less small =
      let at : 256 * (8 * k + i) + m ≡ 2048 * k + 256 * i + m = omega arith in
      let column : 8 * (8 * k + i) ≡ 64 * k + 8 * i = omega arith in
      subst (λ j. IsOutside masks j m (outside_at table (2048 * k + 256 * i + m))) column (subst (λ j. IsOutside masks (8 * (8 * k + i)) m (outside_at table j)) at (h.each (8 * k + i) m (omega arith) small))

module _ (masks : List ℕ) (first word : ℕ) where
  -- the columns whose bits are set among the first n of the word
  pub record IsOutsideBelow (n : ℕ) (it : Outside) : Type 0 where
    pub one : (b : ℕ) → bit_at it.one b ≡ 1 → (i : ℕ) × (i < n) × (bit_at word i ≡ 1) × IsBitSet masks (first + i) b
    pub two : (b : ℕ) → bit_at it.two b ≡ 1 → (i k : ℕ) × (i < k) × (k < n) × (bit_at word i ≡ 1) × (bit_at word k ≡ 1) × IsBitSet masks (first + i) b × IsBitSet masks (first + k) b

  pub below_none : IsOutsideBelow 0 no_columns
  below_none = record {
    one = λ b is. absurd (let z = bit_at-zero b in omega (arith, z, is));
    two = λ b is. absurd (let z = bit_at-zero b in omega (arith, z, is));
  }

  -- a bit of byte i, and its column
  small_bit : (i byte k : ℕ) → byte ≡ bit_and (word / 2 ^ (8 * i)) 255 → bit_at byte k ≡ 1 → k < 8
  small_bit i byte k byte_is one = bit_within byte 8 k (subst (λ m. m < 2 ^ 8) (sym byte_is) (byte_fits (word / 2 ^ (8 * i)))) one

  bit_of_word : (i byte k : ℕ) → byte ≡ bit_and (word / 2 ^ (8 * i)) 255 → bit_at byte k ≡ 1 → bit_at word (8 * i + k) ≡ 1
  bit_of_word i byte k byte_is one = sym (byte_bit word (8 * i) k (small_bit i byte k byte_is one)) ∙ sym (ap (λ m. bit_at m k) byte_is) ∙ one

  column_of_word : (i k b : ℕ) → IsBitSet masks (first + 8 * i + k) b → IsBitSet masks (first + (8 * i + k)) b
  column_of_word i k b is = let e : first + 8 * i + k ≡ first + (8 * i + k) = omega arith in subst (λ c. IsBitSet masks c b) e is

  pub below_more : (i byte : ℕ) (found entry it : Outside) → IsOutsideBelow (8 * i) found → byte ≡ bit_and (word / 2 ^ (8 * i)) 255 → IsOutside masks (first + 8 * i) byte entry → IsBothOf found entry it → IsOutsideBelow (8 * (i + 1)) it
  below_more i byte found entry it h byte_is w both = record {
    one = λ b is. elim (both.one b is) [
      | inl old ↦ let f = h.one b old in (f.0, (let l = f.1 in omega (arith, l)), f.2, f.3)
      | inr new ↦ let f = w.one b new in let l = small_bit i byte f.0 byte_is f.2 in (8 * i + f.0, omega (arith, l), bit_of_word i byte f.0 byte_is f.2, column_of_word i f.0 b f.3)
    ];
    two = λ b is. elim (both.two b is) [
      | inl old ↦ let f = h.two b old in (f.0, f.1, f.2, (let l = f.3 in omega (arith, l)), f.4, f.5, f.6, f.7)
      | inr more ↦ elim more [
        | inl new ↦
            let f = w.two b new in
            let up = f.2 in
            let l = small_bit i byte f.1 byte_is f.5 in
            (8 * i + f.0, 8 * i + f.1, omega (arith, up), omega (arith, l), bit_of_word i byte f.0 byte_is f.4, bit_of_word i byte f.1 byte_is f.5, column_of_word i f.0 b f.6, column_of_word i f.1 b f.7)
        | inr last ↦
            let f = h.one b last.0 in
            let s = w.one b last.1 in
            let up = f.1 in
            let l = small_bit i byte s.0 byte_is s.2 in
            (f.0, 8 * i + s.0, omega (arith, up), omega (arith, l), f.2, bit_of_word i byte s.0 byte_is s.2, f.3, column_of_word i s.0 b s.3)
      ]
    ];
  }

  pub below_all : (n : ℕ) (it : Outside) → IsOutsideBelow n it → n ≤ 64 → IsOutside masks first word it
  below_all n it h all = record {
    one = λ b is. let f = h.one b is in (f.0, (let l = f.1 in omega (arith, l)), f.2, f.3);
    two = λ b is. let f = h.two b is in (f.0, f.1, f.2, (let l = f.3 in omega (arith, l)), f.4, f.5, f.6, f.7);
  }

-- ---- word by word

module _ (masks words : List ℕ) where
  -- the columns of the first n words
  pub record AreLackedBelow (n : ℕ) (it : Outside) : Type 0 where
    pub one : (b : ℕ) → bit_at it.one b ≡ 1 → (c : ℕ) × (c < 64 * n) × (bit_of words c ≡ true) × IsBitSet masks c b
    pub two : (b : ℕ) → bit_at it.two b ≡ 1 → (c d : ℕ) × (c < d) × (d < 64 * n) × (bit_of words c ≡ true) × (bit_of words d ≡ true) × IsBitSet masks c b × IsBitSet masks d b

  pub lacked_none : AreLackedBelow 0 no_columns
  lacked_none = record {
    one = λ b is. absurd (let z = bit_at-zero b in omega (arith, z, is));
    two = λ b is. absurd (let z = bit_at-zero b in omega (arith, z, is));
  }

  set_in_word : (n i : ℕ) → i < 64 → bit_at (get_or words n 0) i ≡ 1 → bit_of words (64 * n + i) ≡ true
  set_in_word n i less one = bit_of-column words n i less ∙ eq-eqb _ 1 one

  pub lacked_more : (n : ℕ) (found entry it : Outside) → AreLackedBelow n found → IsOutside masks (64 * n) (get_or words n 0) entry → IsBothOf found entry it → AreLackedBelow (n + 1) it
  lacked_more n found entry it h w both = record {
    one = λ b is. elim (both.one b is) [
      | inl old ↦ let f = h.one b old in (f.0, (let l = f.1 in omega (arith, l)), f.2, f.3)
      | inr new ↦ let f = w.one b new in (64 * n + f.0, (let l = f.1 in omega (arith, l)), set_in_word n f.0 f.1 f.2, f.3)
    ];
    two = λ b is. elim (both.two b is) [
      | inl old ↦ let f = h.two b old in (f.0, f.1, f.2, (let l = f.3 in omega (arith, l)), f.4, f.5, f.6, f.7)
      | inr more ↦ elim more [
        | inl new ↦
            let f = w.two b new in
            let up = f.2 in
            let l = f.3 in
            let first : f.0 < 64 = omega (arith, up, l) in
            (64 * n + f.0, 64 * n + f.1, omega (arith, up), omega (arith, l), set_in_word n f.0 first f.4, set_in_word n f.1 l f.5, f.6, f.7)
        | inr last ↦
            let f = h.one b last.0 in
            let s = w.one b last.1 in
            let up = f.1 in
            let l = s.1 in
            (f.0, 64 * n + s.0, omega (arith, up), omega (arith, l), f.2, set_in_word n s.0 l s.2, f.3, s.3)
      ]
    ];
  }

  pub lacked_all : (n : ℕ) (it : Outside) (support : List Bool) → AreLackedBelow n it → AreWordsOf support words → HaveTwo masks support it.two
  lacked_all n it support h of b is = let f = h.two b is in (f.0, f.1, f.2, sym (of.bits f.0) ∙ f.4, sym (of.bits f.1) ∙ f.5, f.6, f.7)

-- Words with a bit for each outer ray: of columns, of the values of a byte, and of supports.
use Rattle.std.proofs.Common.{◌≡◌, ℕ, ◌+◌, ◌-◌, ◌*◌, ◌/◌, ◌%◌, ◌^◌, ◌<◌, ◌≤◌, ◌⊎◌, inl, inr, Bool, true, eqb, List, [], ◌∷◌, ◌++◌, length, length-append, get_or, set, length-set, get_or-set_same, get_or-set_other, replicate, w64, bit_and, bit_or, refl, subst, sym, ap, ap₂, ◌∙◌, arith}
use Rattle.std.specs.Int.{bit_at}
use Rattle.std.proofs.lemmas.Bool.{cases_eq, cases_lt, eq-eqb}
use Rattle.std.proofs.lemmas.List.{get_or_default, get_or_past, get_or-replicate, length-replicate, get_or_append_left, get_or_push}
use Rattle.std.proofs.lemmas.Nat.{pow-add}
use Rattle.std.proofs.lemmas.Nat.Bits.{bit_at-zero, bit_at_set_same, bit_at_set_other}
use Rattle.support_bits.specs.Columns.{HasColumn}
use Rattle.support_bits.specs.Words.{bit_of, AreWordsOf}
use Rattle.support_bits.proofs.WordLemmas.{bit_of-column, is_one, within_words}
use Rattle.support_table.specs.Masks.{IsBitSet, IsMaskAdded, AreMasksBelow, IsWordMask, IsMarkOf, AreMasksPushed, IsByteAppended, AreByteMasks, AreMasksOfWord}
use Rattle.support_table.proofs.BitLemmas.{either_set, left_set, right_set, bit_within, old_bit, new_bit, old_or_new_bit, byte_bit, byte_fits}
use Rattle.support_table.proofs.SizeLemmas.{column_within}

-- ---- a bit is set for some columns

module _ (columns : List Bool) (bit : ℕ) where
  -- the bit is set for the columns below n
  pub record IsAddedBelow (n : ℕ) (old new : List ℕ) : Type 0 where
    pub count : length new ≡ length old
    pub found : (column b : ℕ) → IsBitSet new column b → IsBitSet old column b ⊎ ((b ≡ bit) × HasColumn columns column)
    pub kept : (column b : ℕ) → IsBitSet old column b → IsBitSet new column b
    pub added : (column : ℕ) → column < n → HasColumn columns column → IsBitSet new column bit

  pub added_none : (old : List ℕ) → IsAddedBelow 0 old old
  added_none old = record {
    count = refl;
    found = λ column b is. inl is;
    kept = λ column b is. is;
    added = λ column less. absurd (omega arith);
  }

  pub added_set : (n : ℕ) (old new : List ℕ) (m : ℕ) → IsAddedBelow n old new → n < length old → bit < 64 → HasColumn columns n → m ≡ bit_or (get_or new n 0) (1 * 2 ^ bit % 2 ^ 64) → IsAddedBelow (n + 1) old (set new n m)
  added_set n old new m h within fits has is = record {
    count = length-set new n m ∙ h.count;
    found = λ column b one. elim (cases_eq column n) [
      | inl e ↦ elim (cases_eq b bit) [
        | inl same ↦ inr (same, subst (HasColumn columns) (sym e) has)
        | inr other ↦ h.found column b (subst (λ j. IsBitSet new j b) (sym e) (sym (bit_at_set_other w64 (get_or new n 0) bit fits b other) ∙ sym (ap (λ k. bit_at k b) (at column e ∙ is)) ∙ one))
      ]
      | inr differs ↦ h.found column b (sym (ap (λ k. bit_at k b) (get_or-set_other new n column m 0 differs)) ∙ one)
    ];
    kept = λ column b one. elim (cases_eq column n) [
      | inl e ↦ ap (λ k. bit_at k b) (at column e ∙ is) ∙ left_set (get_or new n 0) (1 * 2 ^ bit % 2 ^ 64) b (subst (λ j. IsBitSet new j b) e (h.kept column b one))
      | inr differs ↦ ap (λ k. bit_at k b) (get_or-set_other new n column m 0 differs) ∙ h.kept column b one
    ];
    added = λ column less holds. elim (cases_eq column n) [
      | inl e ↦ ap (λ k. bit_at k bit) (at column e ∙ is) ∙ bit_at_set_same w64 (get_or new n 0) bit fits
      | inr differs ↦ ap (λ k. bit_at k bit) (get_or-set_other new n column m 0 differs) ∙ h.added column (omega arith) holds
    ];
  }
    where
      at : (column : ℕ) → column ≡ n → get_or (set new n m) column 0 ≡ m
      at column e = ap (λ j. get_or (set new n m) j 0) e ∙ get_or-set_same new n m 0 (omega (arith, h.count))

  pub added_skip : (n : ℕ) (old new : List ℕ) → IsAddedBelow n old new → ¬ HasColumn columns n → IsAddedBelow (n + 1) old new
  added_skip n old new h none = record {
    count = h.count;
    found = h.found;
    kept = h.kept;
    added = λ column less holds. elim (cases_lt column n) [
      | inl earlier ↦ h.added column earlier holds
      | inr last ↦ let e : column ≡ n = omega arith in absurd (none (subst (HasColumn columns) e holds))
    ];
  }

  pub added_all : (n : ℕ) (old new : List ℕ) → IsAddedBelow n old new → length columns ≤ n → IsMaskAdded columns bit old new
  added_all n old new h all = record {
    count = h.count;
    found = h.found;
    kept = h.kept;
    added = λ column holds. h.added column (let within = column_within columns column holds in omega (arith, within, all)) holds;
  }

-- ---- the masks of all columns

zero_at : (n j : ℕ) → get_or {A = ℕ} (replicate n 0) j 0 ≡ 0
zero_at n j = let nothing : ℕ = 0 in elim (cases_lt j n) [
  | inl less ↦ get_or-replicate n j nothing nothing less
  | inr exceeded ↦ get_or_past (replicate n nothing) j nothing (let e = length-replicate n nothing in omega (arith, e))
]

module _ (set : ℕ → List Bool) (columns : ℕ) where
  pub masks_none : (masks : List ℕ) → masks ≡ replicate columns 0 → AreMasksBelow set columns 0 masks
  masks_none masks is = record {
    count = ap length is ∙ (let nothing : ℕ = 0 in length-replicate columns nothing);
    each = λ column b. (
      λ one. absurd (let e = ap (λ n. bit_at n b) (ap (λ ms. get_or ms column 0) is ∙ zero_at columns column) in let z = bit_at-zero b in omega (arith, e, z, one)),
      λ t. absurd (let l = t.0 in omega (arith, l)),
    );
  }

  pub masks_next : (n : ℕ) (masks new : List ℕ) (it : List Bool) → AreMasksBelow set columns n masks → set n ≡ it → IsMaskAdded it n masks new → AreMasksBelow set columns (n + 1) new
  masks_next n masks new it h it_is add = record {
    count = add.count ∙ h.count;
    each = λ column b. (
      λ one. elim (add.found column b one) [
        | inl old ↦ let f = (h.each column b).0 old in ((let l = f.0 in omega (arith, l)), f.1)
        | inr last ↦ ((let e = last.0 in omega (arith, e)), subst (λ (o : List Bool). HasColumn o column) (sym (at b last.0)) last.1)
      ],
      λ t. elim (cases_lt b n) [
        | inl earlier ↦ add.kept column b ((h.each column b).1 (earlier, t.1))
        | inr exceeded ↦ let e : b ≡ n = (let l = t.0 in omega (arith, l, exceeded)) in
            subst (λ j. IsBitSet new column j) (sym e) (add.added column (subst (λ (o : List Bool). HasColumn o column) (at b e) t.1))
      ],
    );
  }
    where
      at : (b : ℕ) → b ≡ n → set b ≡ it
      at b e = ap set e ∙ it_is

-- ---- entries with one column more

module _ (mask start : ℕ) (old : List ℕ) where
  pub pushed_none : AreMasksPushed mask start 0 old old
  pushed_none = record {
    count_is = omega arith;
    kept = λ k less. refl;
    each = λ m less. absurd (omega arith);
  }

  pub pushed_more : (n entry : ℕ) (new : List ℕ) → AreMasksPushed mask start n old new → start + n < length old → entry ≡ get_or new (start + n) entry → AreMasksPushed mask start (n + 1) old (new ++ bit_or entry mask ∷ [])
  pushed_more n entry new h within entry_is =
      let count = h.count_is in
      let last : ℕ = bit_or entry mask in record {
        count_is = length-append new (last ∷ []) ∙ omega (arith, count);
        kept = λ k less. get_or_append_left new (last ∷ []) 0 k (omega (arith, count)) ∙ h.kept k less;
        each = λ m less. elim (cases_lt m n) [
          | inl early ↦ get_or_append_left new (last ∷ []) 0 (length old + m) (omega (arith, count)) ∙ h.each m early
          | inr exceeded ↦ let e : m ≡ n = omega arith in
              get_or_push new last 0 (length old + m) (omega (arith, count, e)) ∙ ap (λ k. bit_or k mask) (entry_is ∙ get_or_default new (start + n) entry 0 (omega (arith, count, within)) ∙ h.kept (start + n) within ∙ ap (λ k. get_or old (start + k) 0) (sym e))
        ];
      }

-- ---- the values of a byte

module _ (masks : List ℕ) (first : ℕ) where
  pub mask_none : IsWordMask masks first 0 0
  mask_none = record {
    found = λ b one. absurd (let z = bit_at-zero b in omega (arith, z, one));
    complete = λ b i one. absurd (let z = bit_at-zero i in omega (arith, z, one));
  }

  pub mask_with : (m j entry : ℕ) → m < 2 ^ j → j < 64 → IsWordMask masks first m entry → IsWordMask masks first (2 ^ j + m) (bit_or entry (get_or masks (first + j) 0))
  mask_with m j entry fits within h = let mask = get_or masks (first + j) 0 in record {
    found = λ b one. elim (either_set entry mask b one) [
      | inl old ↦ let f = h.found b old in (f.0, f.1, old_bit m j fits f.0 f.2, f.3)
      | inr new ↦ (j, within, new_bit m j fits, new)
    ];
    complete = λ b i one is. elim (old_or_new_bit m j fits i one) [
      | inl old ↦ left_set entry mask b (h.complete b i old is)
      | inr e ↦ right_set entry mask b (subst (λ k. IsBitSet masks (first + k) b) e is)
    ];
  }

  -- the table has the entries of the values below 2^j
  pub record IsByteBelow (j : ℕ) (old new : List ℕ) : Type 0 where
    pub count : length new ≡ length old + 2 ^ j
    pub kept : (k : ℕ) → k < length old → get_or new k 0 ≡ get_or old k 0
    pub each : (m : ℕ) → m < 2 ^ j → IsWordMask masks first m (get_or new (length old + m) 0)

  pub byte_none : (old : List ℕ) → IsByteBelow 0 old (old ++ 0 ∷ [])
  byte_none old = let nothing : ℕ = 0 in record {
    count = length-append old (nothing ∷ []);
    kept = λ k less. get_or_append_left old (nothing ∷ []) 0 k less;
    each = λ m less. let e : m ≡ 0 = omega arith in
        subst (λ k. IsWordMask masks first k (get_or (old ++ nothing ∷ []) (length old + k) 0)) (sym e) (subst (IsWordMask masks first 0) (sym (get_or_push old nothing 0 (length old + 0) (omega arith))) mask_none);
  }

  pub byte_more : (j mask start count : ℕ) (old mid new : List ℕ) → IsByteBelow j old mid → j < 8 → mask ≡ get_or masks (first + j) 0 → start ≡ length old → count ≡ 2 ^ j → AreMasksPushed mask start count mid new → IsByteBelow (j + 1) old new
  byte_more j mask start count old mid new h within mask_is start_is count_is p =
      let long = h.count in
      let longer = p.count_is in
      let double : 2 ^ (j + 1) ≡ 2 ^ j * 2 = pow-add 2 j 1 in record {
        count = omega (arith, long, longer, count_is, double);
        kept = λ k less. p.kept k (omega (arith, long)) ∙ h.kept k less;
        each = λ m less. elim (cases_lt m (2 ^ j)) [
          | inl early ↦ subst (IsWordMask masks first m) (sym (p.kept (length old + m) (omega (arith, long)))) (h.each m early)
          | inr exceeded ↦
              let k = m - 2 ^ j in
              let e : m ≡ 2 ^ j + k = omega arith in
              let at : length old + m ≡ length mid + k = omega (arith, long, e) in
              let small : k < 2 ^ j = omega (arith, double) in
              let is = p.each k (omega (arith, count_is, small)) in
              subst (λ i. IsWordMask masks first i (get_or new (length old + m) 0)) (sym e)
              (subst (IsWordMask masks first (2 ^ j + k)) (sym (ap (λ i. get_or new i 0) at ∙ is ∙ ap₂ bit_or (ap (λ i. get_or mid (i + k) 0) start_is) mask_is))
              (mask_with k j (get_or mid (length old + k) 0) small (omega arith) (h.each k small)))
        ];
      }

  pub byte_all : (j : ℕ) (old new : List ℕ) → IsByteBelow j old new → j ≡ 8 → IsByteAppended masks first old new
  byte_all j old new h all = let all_is : 2 ^ j ≡ 256 = ap (λ i. 2 ^ i) all in record {
    count = h.count ∙ ap (λ n. length old + n) all_is;
    kept = h.kept;
    each = λ m less. h.each m (omega (arith, all_is));
  }

-- ---- byte by byte

module _ (masks : List ℕ) where
  pub bytes_none : (table : List ℕ) → table ≡ [] → AreByteMasks masks 0 table
  bytes_none table none = record {
    count = ap length none;
    each = λ i m less. absurd (omega arith);
  }

  pub bytes_more : (n first : ℕ) (old new : List ℕ) → AreByteMasks masks n old → first ≡ 8 * n → IsByteAppended masks first old new → AreByteMasks masks (n + 1) new
  bytes_more n first old new h first_is more =
      let count = h.count in
      let longer = more.count in record {
        count = omega (arith, count, longer);
        each = λ i m less small. elim (cases_lt i n) [
          | inl early ↦ subst (IsWordMask masks (8 * i) m) (sym (more.kept (256 * i + m) (omega (arith, count)))) (h.each i m early small)
          | inr exceeded ↦
              let at : 256 * i + m ≡ length old + m = omega (arith, count) in
              let column : first ≡ 8 * i = omega (arith, first_is) in
              subst (λ k. IsWordMask masks k m (get_or new (256 * i + m) 0)) column (subst (IsWordMask masks first m) (sym (ap (λ k. get_or new k 0) at)) (more.each m small))
        ];
      }

  pub bytes_of_word : (bytes k : ℕ) (table : List ℕ) → AreByteMasks masks bytes table → 8 * k + 8 ≤ bytes → AreMasksOfWord masks (64 * k) (2048 * k) table
  bytes_of_word bytes k table h within i m less small =
      let at : 256 * (8 * k + i) + m ≡ 2048 * k + 256 * i + m = omega arith in
      let column : 8 * (8 * k + i) ≡ 64 * k + 8 * i = omega arith in
      subst (λ j. IsWordMask masks j m (get_or table (2048 * k + 256 * i + m) 0)) column (subst (λ j. IsWordMask masks (8 * (8 * k + i)) m (get_or table j 0)) at (h.each (8 * k + i) m (omega arith) small))

module _ (masks : List ℕ) (first word : ℕ) where
  -- the union of the masks of the columns whose bits are set among the first n of the word
  pub record IsMaskBelow (n mask : ℕ) : Type 0 where
    pub found : (b : ℕ) → bit_at mask b ≡ 1 → (i : ℕ) × (i < 64) × (bit_at word i ≡ 1) × IsBitSet masks (first + i) b
    pub complete : (b i : ℕ) → i < n → bit_at word i ≡ 1 → IsBitSet masks (first + i) b → bit_at mask b ≡ 1

  pub mask_below_none : IsMaskBelow 0 0
  mask_below_none = record {
    found = λ b one. absurd (let z = bit_at-zero b in omega (arith, z, one));
    complete = λ b i less. absurd (omega arith);
  }

  pub mask_below_more : (n i mask byte more : ℕ) → IsMaskBelow n mask → n ≡ 8 * i → i < 8 → byte ≡ bit_and (word / 2 ^ (8 * i)) 255 → IsWordMask masks (first + 8 * i) byte more → IsMaskBelow (n + 8) (bit_or mask more)
  mask_below_more n i mask byte more h n_is within byte_is w = record {
    found = λ b one. elim (either_set mask more b one) [
      | inl old ↦ h.found b old
      | inr new ↦
          let f = w.found b new in
          let k = f.0 in
          let small : k < 8 = bit_within byte 8 k (subst (λ m. m < 2 ^ 8) (sym byte_is) (byte_fits (word / 2 ^ (8 * i)))) f.2 in
          let column : first + 8 * i + k ≡ first + (8 * i + k) = omega arith in
          (8 * i + k, omega arith, sym (byte_bit word (8 * i) k small) ∙ sym (ap (λ m. bit_at m k) byte_is) ∙ f.2, subst (λ c. IsBitSet masks c b) column f.3)
    ];
    complete = λ b j less one is. elim (cases_lt j n) [
      | inl early ↦ left_set mask more b (h.complete b j early one is)
      | inr exceeded ↦
          let k = j - 8 * i in
          let small : k < 8 = omega arith in
          let e : 8 * i + k ≡ j = omega arith in
          let column : first + j ≡ first + 8 * i + k = omega arith in
          right_set mask more b (w.complete b k (ap (λ m. bit_at m k) byte_is ∙ byte_bit word (8 * i) k small ∙ ap (bit_at word) e ∙ one) (subst (λ c. IsBitSet masks c b) column is))
    ];
  }

  pub mask_below_all : (n mask : ℕ) → IsMaskBelow n mask → 64 ≤ n → word < 2 ^ 64 → IsWordMask masks first word mask
  mask_below_all n mask h all fits = record {
    found = h.found;
    complete = λ b i one. h.complete b i (let small = bit_within word 64 i fits one in omega (arith, small)) one;
  }

-- ---- word by word

module _ (masks words : List ℕ) where
  -- the union of the masks of the columns of the first n words
  pub record IsMarkBelow (n mark : ℕ) : Type 0 where
    pub found : (b : ℕ) → bit_at mark b ≡ 1 → (column : ℕ) × (bit_of words column ≡ true) × IsBitSet masks column b
    pub complete : (b column : ℕ) → column < 64 * n → bit_of words column ≡ true → IsBitSet masks column b → bit_at mark b ≡ 1

  pub mark_none : IsMarkBelow 0 0
  mark_none = record {
    found = λ b one. absurd (let z = bit_at-zero b in omega (arith, z, one));
    complete = λ b column less. absurd (omega arith);
  }

  pub mark_more : (n mark more : ℕ) → IsMarkBelow n mark → IsWordMask masks (64 * n) (get_or words n 0) more → IsMarkBelow (n + 1) (bit_or mark more)
  mark_more n mark more h w = record {
    found = λ b one. elim (either_set mark more b one) [
      | inl old ↦ h.found b old
      | inr new ↦ let f = w.found b new in (64 * n + f.0, bit_of-column words n f.0 f.1 ∙ eq-eqb _ 1 f.2, f.3)
    ];
    complete = λ b column less is set. elim (cases_lt column (64 * n)) [
      | inl earlier ↦ left_set mark more b (h.complete b column earlier is set)
      | inr exceeded ↦
          let e : column / 64 ≡ n = omega arith in
          let c : column ≡ 64 * n + column % 64 = omega arith in
          right_set mark more b (w.complete b (column % 64)
          (is_one (get_or words n 0) (column % 64) (ap (λ j. eqb (bit_at (get_or words j 0) (column % 64)) 1) (sym e) ∙ is))
          (subst (λ j. IsBitSet masks j b) c set))
    ];
  }

  pub mark_all : (n mark : ℕ) (support : List Bool) → IsMarkBelow n mark → length words ≤ n → AreWordsOf support words → IsMarkOf masks support mark
  mark_all n mark support h all of b = (
    λ one. (let f = h.found b one in (f.0, sym (of.bits f.0) ∙ f.1, f.2)),
    λ t. let is = of.bits t.0 ∙ t.1 in let w = within_words words t.0 is in h.complete b t.0 (omega (arith, w, all)) is t.2,
  )

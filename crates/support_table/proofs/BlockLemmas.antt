-- The columns that all supports of a block or a group have.
use Rattle.std.proofs.Common.{◌≡◌, ℕ, ◌+◌, ◌*◌, ◌/◌, ◌%◌, ◌<◌, ◌≤◌, ◌↔◌, min, inl, inr, ⊎_elim, List, [], ◌++◌, Option, Some, None, IfSome, true, Bool, length, length-append, length-drop, length-take, take, drop, get_or, get_or-take, ap, sym, subst, ◌∙◌, arith, bit_and}
use Rattle.std.specs.Int.{bit_at}
use Rattle.std.proofs.lemmas.Bool.{cases_lt, cases_Bool, eq-eqb}
use Rattle.std.proofs.lemmas.List.{get_or_append_left, get_or-append-add, get_or-drop}
use Rattle.std.proofs.lemmas.Nat.Bits.{bit_at_and, bit_at-lt}
use Rattle.support_bits.specs.Columns.{HasColumn}
use Rattle.support_bits.specs.Words.{bit_of, AreWordsOf, AreCovered}
use Rattle.support_bits.proofs.WordLemmas.{is_one, within_words}
use Rattle.support_table.specs.declared.blocks.ClosedBlocks.{ClosedBlocks}
use Rattle.support_table.specs.Blocks.{block_size, group_size, AreWithin, AreBlocks, IsBlockWords, AreKept, KeepsCommon, AreCommonOf, IsBlockPushed}
use Rattle.support_table.specs.Tables.{Table, listed, AreTableWords, IsTable, AreCommonAt, AreInUnion, CanPass}
use Rattle.support_table.proofs.SizeLemmas.{column_within}
use Rattle.support_table.proofs.TableLemmas.{part_within, table_of, count_of, words_of_place, width_of_place}

-- ---- the bits that two words have

common_of : (m n i : ℕ) → m < 2 → n < 2 → min m n ≡ 1 → (m ≡ 1) × (n ≡ 1)
common_of m n i p q e = (omega arith, omega arith)

pub common_bits : (m n k i : ℕ) → k ≡ bit_and m n → bit_at k i ≡ 1 → (bit_at m i ≡ 1) × (bit_at n i ≡ 1)
common_bits m n k i is one = common_of (bit_at m i) (bit_at n i) i (bit_at-lt m i) (bit_at-lt n i) (sym (bit_at_and m n i) ∙ ap (λ w. bit_at w i) (sym is) ∙ one)

-- ---- a block is appended

word_of_part : (width start j : ℕ) (words : List ℕ) → j < width → get_or (take width (drop start words)) j 0 ≡ get_or words (start + j) 0
word_of_part width start j words less = get_or-take width (drop start words) j 0 less ∙ get_or-drop start words j 0

length_of_part : (width start : ℕ) (words : List ℕ) → start + width ≤ length words → length (take width (drop start words)) ≡ width
length_of_part width start words within = omega (arith, length-take width (drop start words), length-drop start words)

pub common_first : (width first : ℕ) (words old new : List ℕ) → new ≡ old ++ take width (drop (first * width) words) → first * width + width ≤ length words → AreCommonOf width first 1 words old new
common_first width first words old new is within = record {
  count = ap length is ∙ omega (arith, length-append old part, length_of_part width (first * width) words within);
  before = λ j less. ap (λ ws. get_or ws j 0) is ∙ get_or_append_left old part 0 j less;
  common = λ k less j limited i one. let e : first ≡ first + k = omega arith in
      let same : get_or new (length old + j) 0 ≡ get_or words (first * width + j) 0 = ap (λ ws. get_or ws (length old + j) 0) is ∙ get_or-append-add old part j 0 ∙ word_of_part width (first * width) j words limited in
      sym (ap (λ n. bit_at (get_or words (n * width + j) 0) i) e) ∙ sym (ap (λ n. bit_at n i) same) ∙ one;
}
  where
    part : List ℕ
    part = take width (drop (first * width) words)

pub common_more : (width first k start : ℕ) (words old mid new : List ℕ) (added : List ℕ) → AreCommonOf width first k words old mid → start ≡ length old → KeepsCommon start (length added) added mid new →
    added ≡ take width (drop ((first + k) * width) words) → (first + k) * width + width ≤ length words → AreCommonOf width first (k + 1) words old new
common_more width first k start words old mid new added h starts keeps is within = record {
  count = keeps.count ∙ h.count;
  before = λ j less. keeps.before j (omega arith) ∙ h.before j less;
  common = λ p less j limited i one.
      let all : length added ≡ width = ap length is ∙ length_of_part width ((first + k) * width) words within in
      let both = common_bits _ _ _ i (ap (λ n. get_or new (n + j) 0) (sym starts) ∙ keeps.kept j (omega (arith, all)) ∙ ap (λ n. bit_and (get_or mid (n + j) 0) (get_or added j 0)) starts) one in
      ⊎_elim (λ earlier. h.common p earlier j limited i both.0)
      (λ last. let e : k ≡ p = omega arith in
      subst (λ n. bit_at (get_or words ((first + n) * width + j) 0) i ≡ 1) e
      (sym (ap (λ n. bit_at n i) (ap (λ ws. get_or ws j 0) is ∙ word_of_part width ((first + k) * width) j words limited)) ∙ both.1))
      (cases_lt p k);
}

-- ---- the blocks of a table

-- the blocks of a list are blocks of each longer list that keeps its words
pub blocks_grow : (width count more closed : ℕ) (words longer blocks : List ℕ) → AreBlocks width count closed words blocks → length words ≡ count * width → count ≤ more → AreKept words longer →
    AreBlocks width more closed longer blocks
blocks_grow width count more closed words longer blocks h total least prefix = record {
  most = omega (arith, h.most);
  total = h.total;
  common = λ place less j limited i one.
      let within = part_within place count width (omega (arith, h.most)) in
      ap (λ n. bit_at n i) (prefix (place * width + j) (omega arith)) ∙ h.common place less j limited i one;
}

pub blocks_push : (width count closed : ℕ) (words blocks more : List ℕ) → AreBlocks width count closed words blocks → length words ≡ count * width → AreBlocks width (count + 1) closed (words ++ more) blocks
blocks_push width count closed words blocks more h total =
    blocks_grow width count (count + 1) closed words (words ++ more) blocks h total (omega arith) (λ j less. get_or_append_left words more 0 j less)

pub blocks_close : (width count closed first : ℕ) (words blocks new : List ℕ) → AreBlocks width count closed words blocks → first ≡ block_size * closed → first + block_size ≤ count → IsBlockPushed width first words blocks new →
    AreBlocks width count (closed + 1) words new
blocks_close width count closed first words blocks new h is within pushed = record {
  most = omega arith;
  total = pushed.count ∙ sym (one_more ∙ ap (λ n. n + width) (sym h.total));
  common = λ place less. ⊎_elim (before place) (last place less) (cases_lt place (block_size * closed));
}
  where
    one_more : (closed + 1) * width ≡ closed * width + width
    one_more = omega arith

    before : (place : ℕ) → place < block_size * closed → AreWithin width new (place / block_size * width) words (place * width)
    before place less j limited i one =
        let inside = part_within (place / block_size) closed width (omega arith) in
        h.common place less j limited i (sym (ap (λ n. bit_at n i) (pushed.before (place / block_size * width + j) (omega (arith, h.total)))) ∙ one)

    last : (place : ℕ) → place < block_size * (closed + 1) → block_size * closed ≤ place → AreWithin width new (place / block_size * width) words (place * width)
    last place less more j limited i one =
        let e : place / block_size ≡ closed = omega arith in
        let f : first + (place % block_size) ≡ place = omega arith in
        let start : length blocks ≡ place / block_size * width = h.total ∙ ap (λ n. n * width) (sym e) in
        subst (λ n. bit_at (get_or words (n * width + j) 0) i ≡ 1) f
        (pushed.common (place % block_size) (omega arith) j limited i (ap (λ n. bit_at (get_or new (n + j) 0) i) start ∙ one))

-- a table whose next block is closed, and one whose next group is
pub table_blocks : (columns width count : ℕ) (words read : List ℕ) (blocks groups new : ClosedBlocks) → IsTable columns width count words blocks groups → read ≡ words → AreBlocks width count new.closed read new.words.items →
    blocks.closed ≤ new.closed → AreKept blocks.words.items new.words.items → IsTable columns width count words new groups
table_blocks columns width count words read blocks groups new h is common least prefix = record {
  spelled = h.spelled;
  common = subst (λ ws. AreBlocks width count new.closed ws new.words.items) is common;
  grouped = blocks_grow width blocks.closed new.closed groups.closed blocks.words.items new.words.items groups.words.items h.grouped h.common.total least prefix;
}

pub table_groups : (columns width count : ℕ) (words read : List ℕ) (blocks groups new : ClosedBlocks) → IsTable columns width count words blocks groups → read ≡ blocks.words.items →
    AreBlocks width blocks.closed new.closed read new.words.items → IsTable columns width count words blocks new
table_groups columns width count words read blocks groups new h is grouped = record {
  spelled = h.spelled;
  common = h.common;
  grouped = subst (λ ws. AreBlocks width blocks.closed new.closed ws new.words.items) is grouped;
}

-- ---- a block is skipped

set_within : (width start first : ℕ) (blocks words : List ℕ) (column : ℕ) → AreWithin width blocks start words first →
    bit_of (take width (drop start blocks)) column ≡ true → bit_of (take width (drop first words)) column ≡ true
set_within width start first blocks words column h is_set =
    let less : column / 64 < width = omega (arith, within_words (take width (drop start blocks)) column is_set, length-take width (drop start blocks)) in
    let one : bit_at (get_or blocks (start + column / 64) 0) (column % 64) ≡ 1 =
    sym (ap (λ n. bit_at n (column % 64)) (word_of_part width start (column / 64) blocks less)) ∙ is_one _ _ is_set in
    eq-eqb _ 1 (ap (λ n. bit_at n (column % 64)) (word_of_part width first (column / 64) words less) ∙ h (column / 64) less (column % 64) one)

pub each_some : {A : Type 0} (P Q : A → Type 0) (o : Option A) → IfSome o P → ((x : A) → P x → Q x) → IfSome o Q
each_some P Q None h f = h
each_some P Q (Some x) h f = f x h

-- columns that are in each of the supports of a block, if the words are within those of each
common_of_each : (columns width count : ℕ) (words blocks : List ℕ) (table : Table) (place size start : ℕ) → AreTableWords columns width count words → table_of columns (listed columns width count words) ≡ table →
    0 < size → place + size ≤ count → start + width ≤ length blocks → ((k : ℕ) → place ≤ k → k < place + size → AreWithin width blocks start words (k * width)) →
    AreCommonAt table place size (take width (drop start blocks))
common_of_each columns width count words blocks table place size start h is positive inside has within = record {
  within = omega (arith, count_of columns width count words table is);
  padded = record {
    count = length_of_part width start blocks has ∙ h.needed ∙ ap (λ (t : Table). (t.columns + 63) / 64) is;
    unused = λ column exceeded. elim (cases_Bool (bit_of common column)) [
      | inl set ↦ absurd (let limited = column_within _ column (each place column (omega arith) (omega arith) set) in
          let wide = width_of_place columns width count words table place is (omega arith) in omega (arith, limited, wide, exceeded))
      | inr e ↦ e
    ];
  };
  each = each;
}
  where
    common : List ℕ
    common = take width (drop start blocks)

    each : (k column : ℕ) → place ≤ k → k < place + size → bit_of common column ≡ true → HasColumn (get_or table.supports k []) column
    each k column from to set =
        let of_k = words_of_place columns width count words table k h is (omega arith) in
        sym (of_k.bits column) ∙ set_within width start (k * width) blocks words column (within k from to) set

module _ (columns width count : ℕ) (words : List ℕ) (blocks groups : ClosedBlocks) (table : Table) (place : ℕ) (common : List ℕ) (h : IsTable columns width count words blocks groups) (is : table_of columns (listed columns width count words) ≡ table) where
  -- the columns of a closed block are in each of its supports
  pub common_of_block : place % block_size ≡ 0 → IsBlockWords width blocks.closed blocks.words.items (place / block_size) common → AreCommonAt table place block_size common
  common_of_block whole found = subst (AreCommonAt table place block_size) (sym found.is)
      (common_of_each columns width count words blocks.words.items table place block_size (place / block_size * width) h.spelled is (omega arith) (omega (arith, h.common.most, found.less))
      (let w = part_within (place / block_size) blocks.closed width found.less in omega (arith, w, h.common.total)) within)
    where
      within : (k : ℕ) → place ≤ k → k < place + block_size → AreWithin width blocks.words.items (place / block_size * width) words (k * width)
      within k from to = subst (λ n. AreWithin width blocks.words.items (n * width) words (k * width)) (let e : k / block_size ≡ place / block_size = omega arith in e) (h.common.common k (omega (arith, found.less)))

  -- the columns of a closed group are those of its blocks, and so of each of its supports
  pub common_of_group : place % group_size ≡ 0 → IsBlockWords width groups.closed groups.words.items (place / group_size) common → AreCommonAt table place group_size common
  common_of_group whole found = subst (AreCommonAt table place group_size) (sym found.is)
      (common_of_each columns width count words groups.words.items table place group_size (place / group_size * width) h.spelled is (omega arith) (omega (arith, h.common.most, h.grouped.most, found.less))
      (let w = part_within (place / group_size) groups.closed width found.less in omega (arith, w, h.grouped.total)) within)
    where
      within : (k : ℕ) → place ≤ k → k < place + group_size → AreWithin width groups.words.items (place / group_size * width) words (k * width)
      within k from to j limited i one =
          let e : place / group_size ≡ k / block_size / block_size = omega arith in
          let less : k / block_size < block_size * groups.closed = omega (arith, found.less) in
          h.common.common k (omega (arith, h.grouped.most)) j limited i
          (h.grouped.common (k / block_size) less j limited i (subst (λ n. bit_at (get_or groups.words.items (n * width + j) 0) i ≡ 1) e one))

-- the bits of two supports that cover words
pub in_union_iff : (common aw bw : List ℕ) (a b : List Bool) → AreWordsOf a aw → AreWordsOf b bw → AreCovered common aw bw ↔ AreInUnion common a b
in_union_iff common aw bw a b of_a of_b = (
  λ covered column set. ⊎_elim (λ h. inl (sym (of_a.bits column) ∙ h)) (λ h. inr (sym (of_b.bits column) ∙ h)) (covered column set),
  λ inside column set. ⊎_elim (λ h. inl (of_a.bits column ∙ h)) (λ h. inr (of_b.bits column ∙ h)) (inside column set),
)

-- if the columns that some supports have in common are not all in the union, none of the supports lies inside it
pub passes : (table : Table) (a b : List Bool) (common : List ℕ) (place size : ℕ) → AreCommonAt table place size common → ¬ AreInUnion common a b → CanPass table.supports a b place size
passes table a b common place size h outside = record {
  within = h.within;
  none = λ k from to inside. outside (λ column set. inside column (h.each k column from to set));
}

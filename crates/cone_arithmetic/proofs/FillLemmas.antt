-- Lemmas on sums that are filled in at the columns that words of bits name.
use Rattle.std.proofs.Common.{◌≡◌, ℕ, suc, ◌+◌, ◌-◌, ◌*◌, ◌/◌, ◌^◌, ◌<◌, ◌≤◌, Bool, true, false, eqb, List, length, get_or, set, length-set, get_or-set_other, get_or-set_same, slice_index, slice_index_or, ⊎_elim, subst, sym, ◌∙◌, ap, ap₂, refl, arith, replicate, w64}
use Rattle.std.proofs.lemmas.Bool.{cases_lt, cases_eq, eq-eqb, true≢false}
use Rattle.std.proofs.lemmas.List.{get_or_past, ext_get_or, get_or-replicate, length-replicate}
use Rattle.std.proofs.lemmas.Nat.Bits.{bit_at-zero, bit_at_above, bit_at-trailing_zeros}
use Rattle.std.specs.Int.{bit_at, trailing_zeros}
use Rattle.cone_definitions.specs.Vectors.{multiple, sum_of}
use Rattle.support_bits.specs.Words.{AreWordsOf}
use Rattle.support_bits.proofs.WordLemmas.{bit_of-column, bit_after}
use Rattle.cone_arithmetic.proofs.EntryLemmas.{entry-sums, length-sums}
use Rattle.cone_arithmetic.specs.Filled.{AreFilled, NamesColumns, NameColumns, AreInside}

-- no sum is filled in yet
pub filled_none : (limit : ℕ) (z sums : List ℕ) (n : ℕ) → sums ≡ replicate n 0 → n ≡ length z → AreFilled limit z 0 sums
filled_none limit z sums n is same = record {
  count = ap length is ∙ length-replicate n nothing ∙ same;
  before = λ j h. absurd (omega arith);
  within = λ j h. absurd (omega arith);
  after = λ j h. ap (λ x. get_or x j nothing) is ∙ zero_at j;
}
  where
    nothing : ℕ
    nothing = 0

    zero_at : (j : ℕ) → get_or (replicate n nothing) j nothing ≡ nothing
    zero_at j = ⊎_elim (λ less. get_or-replicate n j nothing nothing less)
        (λ exceeded. get_or_past (replicate n nothing) j nothing (let e = length-replicate n nothing in omega (arith, e))) (cases_lt j n)

module _ (limit : ℕ) (z : List ℕ) (column end rest : ℕ) (sums : List ℕ) (filled : AreFilled limit z column sums) (names : NamesColumns z column end rest) where
  -- if no bit is left, all sums up to the end are filled in
  pub filled_all : rest ≡ 0 → AreFilled limit z end sums
  filled_all none = record {
    count = filled.count;
    before = λ j h. ⊎_elim (λ less. filled.before j less) (λ more. filled.after j more ∙ sym (gone j more h)) (cases_lt j column);
    within = λ j h. ⊎_elim (λ less. filled.within j less) (λ more. let g = gone j more h in omega (arith, g)) (cases_lt j column);
    after = λ j h. let o = names.in_order in filled.after j (omega (arith, h, o));
  }
    where
      gone : (j : ℕ) → column ≤ j → j < end → slice_index z j ≡ 0
      gone j more less = let e : column + (j - column) ≡ j = omega arith in
          ap (slice_index z) (sym e) ∙ names.unset (j - column) (ap (λ n. bit_at n (j - column)) none ∙ bit_at-zero (j - column)) (omega arith)

  module _ (skip : ℕ) (is : skip ≡ trailing_zeros w64 rest) (some : 0 < rest) (fits : rest < 2 ^ 64) where
    found : bit_at rest skip ≡ 1
    found = subst (λ k. bit_at rest k ≡ 1) (sym is) (bit_at-trailing_zeros w64 rest some fits).1

    before_it : (i : ℕ) → i < skip → bit_at rest i ≡ 0
    before_it i less = (bit_at-trailing_zeros w64 rest some fits).2 i (omega (arith, is, less))

    -- the column of the next bit
    pub next_column : (column + skip < length z) × (column + skip < end)
    next_column = names.set skip found

    gone_before : (j : ℕ) → column ≤ j → j < column + skip → slice_index z j ≡ 0
    gone_before j more less = let e : column + (j - column) ≡ j = omega arith in let n = next_column in
        ap (slice_index z) (sym e) ∙ names.unset (j - column) (before_it (j - column) (omega arith)) (omega (arith, n))

    -- one more sum
    pub filled_more : (n : ℕ) → n ≡ slice_index z (column + skip) → n ≤ limit → AreFilled limit z (column + skip + 1) (set sums (column + skip) n)
    filled_more n sum most = record {
      count = length-set sums (column + skip) n ∙ filled.count;
      before = λ j h. ⊎_elim
          (λ same. ap (λ i. get_or (set sums (column + skip) n) i 0) same ∙ get_or-set_same sums (column + skip) n 0 (let w = next_column in omega (arith, w, filled.count)) ∙ sum ∙ ap (slice_index z) (sym same))
          (λ other. get_or-set_other sums (column + skip) j n 0 other ∙ ⊎_elim (λ less. filled.before j less) (λ more. filled.after j more ∙ sym (gone_before j more (omega (arith, h, other)))) (cases_lt j column))
          (cases_eq j (column + skip));
      within = λ j h. ⊎_elim
          (λ same. let e = ap (slice_index z) same in omega (arith, e, sum, most))
          (λ other. ⊎_elim (λ less. filled.within j less) (λ more. let g = gone_before j more (omega (arith, h, other)) in omega (arith, g)) (cases_lt j column))
          (cases_eq j (column + skip));
      after = λ j h. get_or-set_other sums (column + skip) j n 0 (omega arith) ∙ filled.after j (omega arith);
    }

    -- the columns after it
    pub names_more : NamesColumns z (column + skip + 1) end (rest / 2 ^ skip / 2)
    names_more = record {
      in_order = let n = next_column in omega (arith, n);
      set = λ i one. let e : column + (skip + suc i) ≡ column + skip + 1 + i = omega arith in
          subst (λ j. (j < length z) × (j < end)) e (names.set (skip + suc i) (sym (bit_after rest skip i) ∙ one));
      unset = λ i none less. let e : column + (skip + suc i) ≡ column + skip + 1 + i = omega arith in
          ap (slice_index z) (sym e) ∙ names.unset (skip + suc i) (sym (bit_after rest skip i) ∙ none) (omega arith);
    }

-- all sums are filled in
pub filled_is : (limit : ℕ) (z : List ℕ) (n : ℕ) (sums : List ℕ) → AreFilled limit z n sums → length z ≤ n → sums ≡ z
filled_is limit z n sums h all = ext_get_or 0 sums z h.count (λ j less. h.before j (omega (arith, less, h.count)))

pub filled_within : (limit : ℕ) (z : List ℕ) (n : ℕ) (sums : List ℕ) → AreFilled limit z n sums → length z ≤ n → (j : ℕ) → slice_index z j ≤ limit
filled_within limit z n sums h all j = ⊎_elim (λ less. h.within j less) (λ exceeded. let e = get_or_past z j 0 (omega arith) in omega (arith, e)) (cases_lt j n)

-- the words of a support name the columns of a sum of two vectors inside it
module _ (a b : ℕ) (u w : List ℕ) (support : List Bool) (words : List ℕ) (same : length u ≡ length w) (width : length support ≡ length w) (inside : AreInside support u w)
    (are : AreWordsOf support words) (fits : (k : ℕ) → get_or words k 0 < 2 ^ 64) where
  abbrev sums_of : List ℕ
  sums_of = sum_of (multiple a w) (multiple b u)

  gone_outside : (column : ℕ) → slice_index_or support column false ≡ false → slice_index sums_of column ≡ 0
  gone_outside column none =
      entry-sums a b w u same column ∙ ap₂ (λ x y. a * x + b * y) (inside column none).1 (inside column none).0 ∙ omega arith

  bit_is : (k i : ℕ) → i < 64 → slice_index_or support (64 * k + i) false ≡ eqb (bit_at (get_or words k 0) i) 1
  bit_is k i less = sym (are.bits (64 * k + i)) ∙ bit_of-column words k i less

  low : (k i : ℕ) → bit_at (get_or words k 0) i ≡ 1 → i < 64
  low k i one = ⊎_elim (λ less. less) (λ more. let e = bit_at_above (get_or words k 0) 64 i (fits k) more in absurd (omega (arith, e, one))) (cases_lt i 64)

  column_within : (column : ℕ) → slice_index_or support column false ≡ true → column < length support
  column_within column has = ⊎_elim (λ less. less) (λ exceeded. absurd (true≢false (sym has ∙ get_or_past support column false exceeded))) (cases_lt column (length support))

  names_at : (k : ℕ) → NamesColumns sums_of (64 * k) (64 * k + 64) (get_or words k 0)
  names_at k = record {
    in_order = omega arith;
    set = λ i one. let l = low k i one in let c = column_within (64 * k + i) (bit_is k i l ∙ eq-eqb _ 1 one) in (omega (arith, c, width, length-sums a b w u same), omega (arith, l));
    unset = λ i none less. gone_outside (64 * k + i) (bit_is k i (omega arith) ∙ ap (λ n. eqb n 1) none);
  }

  pub name_columns : NameColumns sums_of words
  name_columns = record {
    count = are.count ∙ ap (λ n. (n + 63) / 64) (width ∙ sym (length-sums a b w u same));
    each = λ k less. names_at k;
  }

-- the column of the next bit is one of both vectors
pub within_columns : (limit a b : ℕ) (w u : List ℕ) (column end rest : ℕ) (sums : List ℕ) → length u ≡ length w → AreFilled limit (sum_of (multiple a w) (multiple b u)) column sums →
    NamesColumns (sum_of (multiple a w) (multiple b u)) column end rest → 0 < rest → rest < 2 ^ 64 → column + trailing_zeros w64 rest < length w
within_columns limit a b w u column end rest sums same filled names some fits =
    let n = next_column limit (sum_of (multiple a w) (multiple b u)) column end rest sums filled names (trailing_zeros w64 rest) refl some fits in
    let e = length-sums a b w u same in omega (arith, n.0, e)

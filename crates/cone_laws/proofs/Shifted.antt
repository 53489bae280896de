-- A large multiple of a solution and a signed solution inside its support are together a solution.
use Rattle.std.proofs.Common.{◌≡◌, ℕ, ◌+◌, ◌*◌, ◌-◌, ◌≤◌, inl, inr, List, length, slice_index, slice_index_or, All, refl, ap, arith, mul-le-mul_left}
use Rattle.std.specs.List.{sum_by}
use Rattle.std.proofs.lemmas.Bool.{cases_eq, cases_lt}
use Rattle.std.proofs.lemmas.List.Sums.{get_or-le-sum_by}
use Rattle.cone_definitions.specs.Rows.{Row, plus_part, minus_part, IsSolution}
use Rattle.cone_definitions.proofs.Entries.{vector_of, length-vector_of, entry_everywhere, entry_past}
use Rattle.cone_definitions.proofs.Linear.{IsLinear, plus_linear, minus_linear}
use Rattle.cone_laws.proofs.Mixed.{IsBalanced, two_of, entry-two_of, two_linear}

-- no entry is greater than the sum of all
entry_within : (x : List ℕ) (j : ℕ) → slice_index x j ≤ sum_by (λ a. a) x
entry_within x j = elim (cases_lt j (length x)) [
  | inl l ↦ get_or-le-sum_by (λ a. a) x j 0 l
  | inr l ↦ omega (arith, entry_past x (length x) j refl l)
]

-- x and m are together k times s and p
pub record IsShifted (columns : ℕ) (rows : List Row) (s p m : List ℕ) : Type 0 where
  pub x : List ℕ
  pub k : ℕ
  pub solution : IsSolution columns rows x
  pub sum : (j : ℕ) → slice_index x j + slice_index m j ≡ k * slice_index s j + slice_index p j

shifted_zero : (k fx gx fs gs fp gp fm gm : ℕ) → fx + fm ≡ k * fs + fp → gx + gm ≡ k * gs + gp → fs ≡ gs → fp + gm ≡ fm + gp → fx ≡ gx
shifted_zero k fx gx fs gs fp gp fm gm a b c d = omega (arith, ap (λ n. k * n) c)

enough : (k s p m : ℕ) → m ≤ k → (s ≡ 0 → p ≡ m) → m ≤ k * s + p
enough k s p m within same = elim (cases_eq s 0) [
  | inl z ↦ let e : p ≡ m = same z in omega arith
  | inr some ↦ let l : k * 1 ≤ k * s = mul-le-mul_left k (omega arith) in omega arith
]

module _ (columns : ℕ) (s p m : List ℕ) (es : length s ≡ columns) (ep : length p ≡ columns) (em : length m ≡ columns)
    (same : (j : ℕ) → slice_index s j ≡ 0 → slice_index p j ≡ slice_index m j) where
  bound : ℕ
  bound = sum_by (λ a. a) m

  shifted : List ℕ
  shifted = vector_of columns (λ j. bound * slice_index s j + slice_index p j - slice_index m j)

  entry-shifted : (j : ℕ) → slice_index shifted j ≡ bound * slice_index s j + slice_index p j - slice_index m j
  unfolding shifted
  entry-shifted j = entry_everywhere columns (λ i. bound * slice_index s i + slice_index p i - slice_index m i)
      (λ i h. let z : slice_index s i ≡ 0 = entry_past s columns i es h in let y : slice_index p i ≡ 0 = entry_past p columns i ep h in
      let e : bound * slice_index s i ≡ 0 = rw z (omega arith) in omega arith) j

  shifted_sum : (j : ℕ) → slice_index shifted j + slice_index m j ≡ bound * slice_index s j + slice_index p j
  unfolding bound
  shifted_sum j = let l : slice_index m j ≤ bound * slice_index s j + slice_index p j =
      enough bound (slice_index s j) (slice_index p j) (slice_index m j) (entry_within m j) (same j) in omega (arith, entry-shifted j)

  length-shifted : length shifted ≡ columns
  unfolding shifted
  length-shifted = length-vector_of columns _

  shifted_linear : (f : List ℕ → ℕ) → IsLinear f → f shifted + f m ≡ bound * f s + f p
  shifted_linear f lin = let e : f (two_of columns bound 1 s p) ≡ bound * f s + 1 * f p = two_linear columns f lin bound 1 s p es ep in
      let g : 1 * f (two_of columns bound 1 s p) ≡ 1 * f shifted + 1 * f m = lin.splits 1 1 1 (two_of columns bound 1 s p) shifted m
      (λ j. omega (arith, entry-two_of columns bound 1 s p es ep j, shifted_sum j)) in omega arith

  pub shifted_solution : (rows : List Row) → IsSolution columns rows s → All (λ row. IsBalanced row p m) rows → IsShifted columns rows s p m
  shifted_solution rows sol balanced = record {
    x = shifted;
    k = bound;
    solution = record {
      width = length-shifted;
      zero = λ i d h. let row : Row = slice_index_or rows i d in
          shifted_zero bound (plus_part row shifted) (minus_part row shifted) (plus_part row s) (minus_part row s) (plus_part row p) (minus_part row p) (plus_part row m) (minus_part row m)
          (shifted_linear (plus_part row) (plus_linear row)) (shifted_linear (minus_part row) (minus_linear row)) (sol.zero i d h) (balanced i d h);
    };
    sum = shifted_sum;
  }

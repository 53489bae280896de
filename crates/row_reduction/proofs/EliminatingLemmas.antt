-- Rows that are cleared, eliminated, retained and made sparser step by step.
use Rattle.std.proofs.Common.{◌≡◌, ℕ, ◌<◌, ◌≤◌, ◌+◌, inl, inr, ℤ, List, [], ◌∷◌, ◌++◌, length, get_or, take, drop, suc, subst, subst₂, sym, ap, ◌∙◌, refl, arith, Contains, Option, Some, None, Bool, true, ◌==◌}
use Rattle.std.specs.List.{remove}
use Rattle.std.proofs.lemmas.Bool.{cases_lt, eqb-true}
use Rattle.std.proofs.lemmas.List.{take_more, length-set, get_or-set_other, get_or-set_same, get_or_default}
use Rattle.basic_lemmas.proofs.Lists.{split_at}
use Rattle.cone_definitions.specs.Rows.{Row}
use Rattle.cone_arithmetic.specs.Sparse.{IsSparse}
use Rattle.cone_row_laws.specs.Operations.{IsSumWith}
use Rattle.row_reduction.specs.declared.fault.SolveFault.{SolveFault}
use Rattle.row_reduction.specs.declared.fault.SolveFault.TheVariants.{Passed, NoMemory}
use Rattle.row_reduction.specs.Clearing.{AddsMultipleAt, IsUnitAt}
use Rattle.row_reduction.specs.Eliminating.{row_at, HasNoTerm, CancelsAt, IsCleared, AreCleared, IsPivotBelow, AreSolvedFor, AreEliminated, no_columns, column_more, AreKept, Thins, AreThinned, as_they_are, row_more}
use Rattle.row_reduction.proofs.FewerLemmas.{sum_is_shorter}
use Rattle.row_reduction.specs.Passing.{PassesAtColumn, PassesClearing, PassesFor, PassesAtPivot, PassesThinned, PassesAmong, HasPassedSum, IfPassed}

-- ---- the index of a pivot row

module _ (column : ℕ) (rows : List Row) (n : ℕ) where
  here : (i : ℕ) → i < n + 1 → n ≤ i → i ≡ n
  here i less most = omega (arith, less, most)

  pub pivot_stays : (best : Option ℕ) → IsPivotBelow column rows n best → (IsUnitAt column (row_at rows n) → ⊥) → IsPivotBelow column rows (n + 1) best
  pivot_stays None h other = λ i less unit. elim (cases_lt i n) [
    | inl l ↦ h i l unit
    | inr l ↦ other (subst (λ k. IsUnitAt column (row_at rows k)) (here i less l) unit)
  ]
  pivot_stays (Some place) h other = (
    (let l = h.0 in omega (arith, l)),
    h.1,
    λ i less unit. elim (cases_lt i n) [
      | inl l ↦ h.2 i l unit
      | inr l ↦ absurd (other (subst (λ k. IsUnitAt column (row_at rows k)) (here i less l) unit))
    ],
  )

  pub pivot_first : IsPivotBelow column rows n None → IsUnitAt column (row_at rows n) → IsPivotBelow column rows (n + 1) (Some n)
  pivot_first h unit = (
    (omega arith),
    unit,
    λ i less u. elim (cases_lt i n) [
      | inl l ↦ absurd (h i l u)
      | inr l ↦ let s = ap (λ m. length (row_at rows m)) (here i less l) in omega (arith, s)
    ],
  )

  pub no_place : (best : Option ℕ) → IsPivotBelow column rows n best → ((place : ℕ) → best ≡ Some place → ⊥) → IsPivotBelow column rows n None
  no_place None h other = h
  no_place (Some place) h other = absurd (other place refl)

-- ---- a column is cleared

-- the first n rows are cleared, and the others are unchanged
pub record AreClearedBelow (pivot : Row) (column : ℕ) (rows now : List Row) (n : ℕ) : Type 0 where
  pub count : length now ≡ length rows
  pub each : (i : ℕ) → i < length rows → i < n → IsCleared pivot column (row_at rows i) (row_at now i)
  pub same : (i : ℕ) → n ≤ i → row_at now i ≡ row_at rows i

module _ (pivot : Row) (column : ℕ) (rows : List Row) where
  pub cleared_none : AreClearedBelow pivot column rows rows 0
  cleared_none = record {
    count = refl;
    each = λ i within less. absurd (omega (arith, less));
    same = λ i most. refl;
  }

  pub cleared_all : (now : List Row) (n : ℕ) → length rows ≤ n → AreClearedBelow pivot column rows now n → AreCleared pivot column rows now
  cleared_all now n most h = record { count = h.count; each = λ i within. h.each i within (omega (arith, within, most)) }

  module _ (now : List Row) (n : ℕ) (h : AreClearedBelow pivot column rows now n) (within : n < length now) where
    -- the row at n has no term at the column
    pub cleared_same : HasNoTerm (row_at now n) column → AreClearedBelow pivot column rows now (n + 1)
    cleared_same none = record {
      count = h.count;
      each = λ i less below. elim (cases_lt i n) [
        | inl l ↦ h.each i less l
        | inr l ↦ let e : i ≡ n = omega (arith, below, l) in
            let s : row_at now i ≡ row_at rows i = h.same i l in
            inl (s, subst (λ r. HasNoTerm r column) s (subst (λ k. HasNoTerm (row_at now k) column) (sym e) none))
      ];
      same = λ i most. h.same i (omega (arith, most));
    }

    -- a multiple of the pivot row is added to it
    pub cleared_more : (columns : ℕ) (factor : ℤ) (new : List Row) → CancelsAt column (row_at now n) factor pivot → AddsMultipleAt columns now n factor pivot new →
        AreClearedBelow pivot column rows new (n + 1)
    cleared_more columns factor new cancels adds = record {
      count = ap length adds.replaced ∙ length-set now n adds.sum ∙ h.count;
      each = λ i less below. elim (cases_lt i n) [
        | inl l ↦ subst (λ r. IsCleared pivot column (row_at rows i) r) (sym (other i (λ e. omega (arith, l, e)))) (h.each i less l)
        | inr l ↦ let e : i ≡ n = omega (arith, below, l) in
            subst (λ k. IsCleared pivot column (row_at rows k) (row_at new k)) (sym e)
            (inr (
              factor,
              subst (λ r. CancelsAt column r factor pivot) old cancels,
              record { is_sum = subst₂ (λ r s. IsSumWith r factor pivot s) old (sym own) adds.is_sum; is_sparse = subst IsSparse (sym own) adds.is_sparse },
            ))
      ];
      same = λ i most. other i (λ e. omega (arith, most, e)) ∙ h.same i (omega (arith, most));
    }
      where
        old : row_at now n ≡ row_at rows n
        old = h.same n (omega arith)

        own : row_at new n ≡ adds.sum
        own = ap (λ r. row_at r n) adds.replaced ∙ get_or-set_same now n adds.sum [] within

        other : (i : ℕ) → (i ≡ n → ⊥) → row_at new i ≡ row_at now i
        other i separate = ap (λ r. row_at r i) adds.replaced ∙ get_or-set_other now n i adds.sum [] separate

    pub passes_clearing : (factor : ℤ) → CancelsAt column (row_at now n) factor pivot → (fault : SolveFault) → IfPassed (PassesAtColumn (row_at now n) factor pivot) fault →
        IfPassed (PassesClearing pivot column rows) fault
    passes_clearing factor cancels Passed p = record {
      row = row_at now n;
      among = subst (Contains rows) (sym (h.same n (omega arith))) (n, subst (λ k. n < k) h.count within, get_or_default rows n (row_at rows n) [] (subst (λ k. n < k) h.count within));
      factor = factor;
      cancels = cancels;
      passes = p;
    }
    passes_clearing factor cancels NoMemory p = tt

-- ---- columns one by one

pub columns_none : (rows others none : List Row) → others ≡ rows → none ≡ [] → AreEliminated rows [] others none
columns_none rows others none e n = rw (e, n) no_columns

module _ (rows : List Row) (pivots : List ℕ) (i : ℕ) (unsolved solved : List Row) (within : i < length pivots) (h : AreEliminated rows (take i pivots) unsolved solved) where
  pub columns_more : (unsolved_after solved_after : List Row) → AreSolvedFor (get_or pivots i 0) unsolved solved unsolved_after solved_after →
      AreEliminated rows (take (i + 1) pivots) unsolved_after solved_after
  columns_more unsolved_after solved_after s = subst (λ columns. AreEliminated rows columns unsolved_after solved_after) (sym (take_more pivots i 0 within))
      (column_more (take i pivots) (get_or pivots i 0) unsolved solved unsolved_after solved_after h s)

  pub passes_at_pivot : (fault : SolveFault) → IfPassed (PassesFor (get_or pivots i 0) unsolved solved) fault → IfPassed (PassesAtPivot rows pivots) fault
  passes_at_pivot Passed p = record {
    before = take i pivots;
    column = get_or pivots i 0;
    after = drop (suc i) pivots;
    in_order = split_at i pivots within;
    unsolved = unsolved;
    solved = solved;
    eliminated = h;
    passes = p;
  }
  passes_at_pivot NoMemory p = tt

-- ---- rows that are made sparser

pub thinned_again : (start middle new : List Row) → AreThinned start middle → AreThinned middle new → AreThinned start new
thinned_again start middle _ h as_they_are = h
thinned_again start middle _ h (row_more rows new k step) = row_more rows new (thinned_again start middle rows h k) step

pub passes_again : (start middle : List Row) → AreThinned start middle → (fault : SolveFault) → IfPassed (PassesThinned middle) fault → IfPassed (PassesThinned start) fault
passes_again start middle h Passed p = record { thinned = p.thinned; are_thinned = thinned_again start middle p.thinned h p.are_thinned; passes = p.passes }
passes_again start middle h NoMemory p = tt

module _ (columns : ℕ) (rows : List Row) (i j : ℕ) (factor : ℤ) (other : Row) (within : i < length rows) (other_within : j < length rows) (different : i ≡ j → ⊥)
    (is : other ≡ row_at rows j) (thins : Thins (row_at rows i) factor other) where
  pub thinned_once : (new : List Row) → IsSparse (row_at rows i) → IsSparse (row_at rows j) → AddsMultipleAt columns rows i factor other new → AreThinned rows new
  thinned_once new sparse other_sparse adds = row_more rows new as_they_are (record {
    i = i;
    j = j;
    within = within;
    other_within = other_within;
    different = different;
    factor = factor;
    thins = subst (λ r. Thins (row_at rows i) factor r) is thins;
    sum = adds.sum;
    is_sum = record { is_sum = subst (λ r. IsSumWith (row_at rows i) factor r adds.sum) is adds.is_sum; is_sparse = adds.is_sparse };
    shorter = sum_is_shorter (row_at rows i) factor other adds.sum sparse (subst IsSparse (sym is) other_sparse) adds.is_sparse adds.is_sum thins.fewer;
    replaced = adds.replaced;
  })

  pub passes_once : (fault : SolveFault) → IfPassed (PassesAtColumn (row_at rows i) factor other) fault → IfPassed (PassesThinned rows) fault
  passes_once Passed p = record {
    thinned = rows;
    are_thinned = as_they_are;
    passes = record {
      i = i;
      j = j;
      within = within;
      other_within = other_within;
      different = different;
      factor = factor;
      thins = subst (λ r. Thins (row_at rows i) factor r) is thins;
      passes = subst (PassesAtColumn (row_at rows i) factor) is p;
    };
  }
  passes_once NoMemory p = tt

-- ---- the whole elimination

none_of_none : (xs : Row) → length xs ≡ 0 → xs ≡ []
none_of_none [] e = refl
none_of_none (x ∷ xs) e = let no_length : ⊥ = omega (arith, e) in absurd no_length

pub no_entries : (entries row : Row) (empty : Bool) → entries ≡ row → empty ≡ (length entries == 0) → empty ≡ true → row ≡ []
no_entries entries row empty is e t = sym is ∙ none_of_none entries (eqb-true (length entries) 0 (sym e ∙ t))

pub passes_among : (rows kept : List Row) → AreKept rows kept → (fault : SolveFault) → IfPassed (PassesThinned kept) fault → IfPassed (PassesAmong rows) fault
passes_among rows kept h Passed p = record { kept = kept; are_kept = h; passes = p }
passes_among rows kept h NoMemory p = tt

pub then_passed : (rows : List Row) (pivots : List ℕ) (unsolved solved : List Row) → AreEliminated rows pivots unsolved solved → (fault : SolveFault) → IfPassed (PassesAmong unsolved) fault →
    IfPassed (HasPassedSum rows pivots) fault
then_passed rows pivots unsolved solved h Passed p = inr (record { unsolved = unsolved; solved = solved; eliminated = h; passes = p })
then_passed rows pivots unsolved solved h NoMemory p = tt

-- a column: first the unsolved rows, then the pivot rows
module _ (column : ℕ) (unsolved solved : List Row) (place : ℕ) (is : IsPivotBelow column unsolved (length unsolved) (Some place)) (pivot : Row)
    (pivot_is : pivot ≡ get_or unsolved place pivot) where
  same_pivot : pivot ≡ row_at unsolved place
  same_pivot = pivot_is ∙ sym (get_or_default unsolved place [] pivot is.0)

  pub pivot_unit : IsUnitAt column pivot
  pivot_unit = subst (IsUnitAt column) (sym same_pivot) is.1

  pub solves_for : (rest cleared solved_after : List Row) → AreCleared pivot column (remove unsolved place) rest → AreCleared pivot column solved cleared → solved_after ≡ cleared ++ pivot ∷ [] →
      AreSolvedFor column unsolved solved rest solved_after
  solves_for rest cleared solved_after h k e = inr (record {
    place = place;
    is_pivot = is;
    unsolved_cleared = subst (λ r. AreCleared r column (remove unsolved place) rest) same_pivot h;
    cleared = cleared;
    solved_cleared = subst (λ r. AreCleared r column solved cleared) same_pivot k;
    pivot_last = e ∙ ap (λ (r : Row). cleared ++ r ∷ []) same_pivot;
  })

  pub passes_first : (fault : SolveFault) → IfPassed (PassesClearing pivot column (remove unsolved place)) fault → IfPassed (PassesFor column unsolved solved) fault
  passes_first Passed p = record { place = place; is_pivot = is; passes = inl (subst (λ r. PassesClearing r column (remove unsolved place)) same_pivot p) }
  passes_first NoMemory p = tt

  pub passes_second : (fault : SolveFault) → IfPassed (PassesClearing pivot column solved) fault → IfPassed (PassesFor column unsolved solved) fault
  passes_second Passed p = record { place = place; is_pivot = is; passes = inr (subst (λ r. PassesClearing r column solved) same_pivot p) }
  passes_second NoMemory p = tt

-- The rows that hold columns at 0.
use Rattle.std.proofs.Common.{◌≡◌, ◌≢◌, ℕ, zero, suc, ◌+◌, ◌*◌, ◌<◌, List, [], ◌∷◌, ◌++◌, pos, Bool, true, false, true≢false, All, length, set, slice_index, slice_index_or, get_or-set_same, get_or-set_other, subst, sym, ap, refl, ◌∙◌, arith}
use Rattle.std.specs.Prelude.{◌↔◌}
use Rattle.std.proofs.lemmas.List.Elements.{All-nil, All-cons, All-head, All-tail, All-append}
use Rattle.std.proofs.lemmas.List.Sums.{sum_by-cons}
use Rattle.cone_definitions.specs.Vectors.{unit}
use Rattle.cone_definitions.specs.Rows.{Row, plus_part, minus_part, positive_coefficient, negative_coefficient, IsZeroAt, IsSolution}
use Rattle.cone_definitions.proofs.Units.{entry-unit_other}
use Rattle.cone_row_laws.specs.Fresh.{IsUntouched}
use Rattle.cone_row_laws.proofs.RedundantRows.{all_behind}
use Rattle.lazy_columns.specs.Late.{IsUnseen, held_rows}

-- the row that is 0 if and only if the column is
abbrev pub at_column : ℕ → Row
at_column column = (column, pos 1) ∷ []

-- what holds for each column that has not entered holds of all rows that hold columns
pub held_all : (P : Row → Type 0) (i : ℕ) (seen : List Bool) → ((j : ℕ) → IsUnseen seen j → P (at_column (i + j))) → All P (held_rows i seen)
unfolding held_rows
held_all P i [] h = All-nil P
held_all P i (true ∷ seen) h = held_all P (i + 1) seen (λ j unseen. subst (λ n. P (at_column n)) {x = i + suc j} {y = i + 1 + j} (omega arith) (h (suc j) unseen))
held_all P i (false ∷ seen) h = All-cons P (at_column i) (held_rows (i + 1) seen)
    (subst (λ n. P (at_column n)) {x = i + 0} {y = i} (omega arith) (h 0 refl))
    (held_all P (i + 1) seen (λ j unseen. subst (λ n. P (at_column n)) {x = i + suc j} {y = i + 1 + j} (omega arith) (h (suc j) unseen)))

-- what holds of all rows that hold columns holds for each column that has not entered
pub held_each : (P : Row → Type 0) (i : ℕ) (seen : List Bool) (j : ℕ) → All P (held_rows i seen) → IsUnseen seen j → P (at_column (i + j))
unfolding held_rows
held_each P i [] j h unseen = absurd (true≢false unseen)
held_each P i (true ∷ seen) zero h unseen = absurd (true≢false unseen)
held_each P i (true ∷ seen) (suc j) h unseen = subst (λ n. P (at_column n)) {x = i + 1 + j} {y = i + suc j} (omega arith) (held_each P (i + 1) seen j h unseen)
held_each P i (false ∷ seen) zero h unseen = subst (λ n. P (at_column n)) {x = i} {y = i + 0} (omega arith) (All-head P (at_column i) (held_rows (i + 1) seen) h)
held_each P i (false ∷ seen) (suc j) h unseen = subst (λ n. P (at_column n)) {x = i + 1 + j} {y = i + suc j} (omega arith)
    (held_each P (i + 1) seen j (All-tail P (at_column i) (held_rows (i + 1) seen) h) unseen)

all_front : (P : Row → Type 0) (xs ys : List Row) → All P (xs ++ ys) → All P xs
all_front P [] ys h = All-nil P
all_front P (x ∷ xs) ys h = All-cons P x xs (All-head P x (xs ++ ys) h) (all_front P xs ys (All-tail P x (xs ++ ys) h))

-- the row is 0 at the vectors that are 0 in the column
column_zero : (column : ℕ) (x : List ℕ) → IsZeroAt (at_column column) x ↔ (slice_index x column ≡ 0)
column_zero column x = (λ z. omega (arith, z), λ z. omega (arith, z))

-- the solutions of rows together with rows that hold columns
pub held_solution : (columns : ℕ) (rows : List Row) (seen : List Bool) (x : List ℕ) →
    IsSolution columns (rows ++ held_rows 0 seen) x ↔ (IsSolution columns rows x × ((j : ℕ) → IsUnseen seen j → slice_index x j ≡ 0))
held_solution columns rows seen x = (
  λ s. (
    record { width = s.width; zero = all_front (λ row. IsZeroAt row x) rows (held_rows 0 seen) s.zero },
    λ j unseen. subst (λ n. slice_index x n ≡ 0) {x = 0 + j} {y = j} (omega arith)
        ((column_zero (0 + j) x).0 (held_each (λ row. IsZeroAt row x) 0 seen j (all_behind (λ row. IsZeroAt row x) rows (held_rows 0 seen) s.zero) unseen)),
  ),
  λ h. record {
    width = h.0.width;
    zero = All-append (λ row. IsZeroAt row x) rows (held_rows 0 seen) h.0.zero
        (held_all (λ row. IsZeroAt row x) 0 seen (λ j unseen. (column_zero (0 + j) x).1 (subst (λ n. slice_index x n ≡ 0) {x = j} {y = 0 + j} (omega arith) (h.1 j unseen))));
  },
)

-- ---- columns that have entered

pub seen_before : (seen : List Bool) (column : ℕ) → IsUnseen seen column → column < length seen
seen_before [] column unseen = absurd (true≢false unseen)
seen_before (one ∷ seen) zero unseen = omega arith
seen_before (one ∷ seen) (suc column) unseen = let l = seen_before seen column unseen in omega arith

-- once a column enters, the columns that have not entered are others, and had not entered before
pub unseen_after : (seen : List Bool) (column j : ℕ) → IsUnseen seen column → IsUnseen (set seen column true) j → IsUnseen seen j × (j ≢ column)
unseen_after seen column j unseen h = (sym (get_or-set_other seen column j true true differs) ∙ h, differs)
  where
    differs : j ≢ column
    differs e = true≢false (sym (get_or-set_same seen column true true (seen_before seen column unseen)) ∙ ap (λ i. slice_index_or (set seen column true) i true) (sym e) ∙ h)

pub unseen_still : (seen : List Bool) (column j : ℕ) → IsUnseen seen j → j ≢ column → IsUnseen (set seen column true) j
unseen_still seen column j unseen differs = get_or-set_other seen column j true true differs ∙ unseen

-- ---- rows without a column

pub parts_without : (columns column : ℕ) (row : Row) → All (λ term. term.0 ≢ column) row →
    (plus_part row (unit columns column) ≡ 0) × (minus_part row (unit columns column) ≡ 0)
parts_without columns column [] h = (refl, refl)
parts_without columns column (term ∷ row) h =
    let rest = parts_without columns column row (All-tail (λ term. term.0 ≢ column) term row h) in
    let gone : slice_index (unit columns column) term.0 ≡ 0 = entry-unit_other columns column term.0 (All-head (λ term. term.0 ≢ column) term row h) in (
      sum_by-cons (λ t. positive_coefficient t.1 * slice_index (unit columns column) t.0) term row ∙ rw (gone, rest.0) (omega arith),
      sum_by-cons (λ t. negative_coefficient t.1 * slice_index (unit columns column) t.0) term row ∙ rw (gone, rest.1) (omega arith),
    )

-- rows that hold other columns have no term of the column
pub untouched_held : (columns : ℕ) (rows : List Row) (seen : List Bool) (column : ℕ) → IsUntouched columns rows column → ((j : ℕ) → IsUnseen seen j → j ≢ column) →
    IsUntouched columns (rows ++ held_rows 0 seen) column
untouched_held columns rows seen column h others = record {
  in_range = h.in_range;
  plus = All-append (λ row. plus_part row (unit columns column) ≡ 0) rows (held_rows 0 seen) h.plus
      (held_all (λ row. plus_part row (unit columns column) ≡ 0) 0 seen (λ j unseen. (alone (0 + j) (λ e. others j unseen (omega (arith, e)))).0));
  minus = All-append (λ row. minus_part row (unit columns column) ≡ 0) rows (held_rows 0 seen) h.minus
      (held_all (λ row. minus_part row (unit columns column) ≡ 0) 0 seen (λ j unseen. (alone (0 + j) (λ e. others j unseen (omega (arith, e)))).1));
}
  where
    alone : (j : ℕ) → j ≢ column → (plus_part (at_column j) (unit columns column) ≡ 0) × (minus_part (at_column j) (unit columns column) ≡ 0)
    alone j differs = parts_without columns column (at_column j) (All-cons (λ term. term.0 ≢ column) (j, pos 1) [] differs (All-nil (λ term. term.0 ≢ column)))

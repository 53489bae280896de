-- The pivot row is removed from the unsolved rows.
use Rattle.std.proofs.Common.{rules, ◌<◌, length, inl, refl, w32, FitsSigned}
use Rattle.std.proofs.lemmas.Int.{to_z-of_z}
use Rattle.std.proofs.lemmas.List.Sorted.{IsPermutation-remove}
use Rattle.cone_arithmetic.specs.Sparse.{IsInRange}
use Rattle.std.specs.Prelude.{Some}
use Rattle.std.proofs.lemmas.Result.{err_from_is_err_and}
use Rattle.row_reduction.specs.Eliminating.{IsPivotBelow}
use Rattle.row_reduction.proofs.EliminatingLemmas.{no_place, pivot_unit, solves_for, passes_first, passes_second}
use Rattle.row_reduction.proofs.CoefficientLemmas.{unit_of}
use Rattle.row_reduction.proofs.RowLemmas.{column_solved, taken_out}
use Rattle.row_reduction.proofs.blocks.solve_column.Goals as goal

pub invariant_of-pivot : goal.invariant_of-pivot
invariant_of-pivot c =
    let rows = c.args.blocks.now.unsolved.rows.items in
    let row = c.remove-row.result in
    let unit = c.coefficient_at-unit.result in
    let is : IsPivotBelow c.args.column rows (length rows) (Some c.in-Some.place) = rw c.deref.ensures.value at c.in-Some.ensures in
    let f : FitsSigned w32 unit = search rules in
    let has = pivot_unit c.args.column rows c.args.blocks.now.solved.rows.items c.in-Some.place is row c.remove-row.ensures.value in
    rw (to_z-of_z w32 unit f) (unit_of row c.args.column unit has c.coefficient_at-unit.ensures.unit c.coefficient_at-unit.ensures.found)

pub invariant_of-pivot-2 : goal.invariant_of-pivot-2
invariant_of-pivot-2 c =
    let rows = c.args.blocks.now.unsolved.rows.items in
    let row = c.remove-row.result in
    let unit = c.coefficient_at-unit.result in
    let is : IsPivotBelow c.args.column rows (length rows) (Some c.in-Some.place) = rw c.deref.ensures.value at c.in-Some.ensures in
    let f : FitsSigned w32 unit = search rules in
    let has = pivot_unit c.args.column rows c.args.blocks.now.solved.rows.items c.in-Some.place is row c.remove-row.ensures.value in
    rw (to_z-of_z w32 unit f) (unit_of row c.args.column unit has c.coefficient_at-unit.ensures.unit c.coefficient_at-unit.ensures.found)

pub clear_rows-requires : goal.clear_rows-requires
clear_rows-requires c =
    let rows = c.args.blocks.now.unsolved.rows.items in
    let within : c.in-Some.place < length rows = search rules in
    (taken_out (IsInRange c.args.blocks.now.unsolved.columns) rows c.in-Some.place c.remove-row.result within c.remove-row.ensures.value c.args.blocks.now.unsolved.in_range).0

pub returns-clause-same : goal.returns-clause-same
returns-clause-same c =
    let rows = c.args.blocks.now.unsolved.rows.items in
    let within : c.in-Some.place < length rows = search rules in
    let same = IsPermutation-remove rows c.in-Some.place c.remove-row.result within c.remove-row.ensures.value in
    let cleared = rw c.remove-row.ensures.items at c.in_ok-clear_rows.ensures.cleared in
    rw c.in_ok-push.ensures.items
    (column_solved rows _ c.args.blocks.now.solved.rows.items c.clear_rows.new.list.rows.items c.clear_rows-2.new.list.rows.items c.remove-row.result same cleared c.in_ok-clear_rows-2.ensures.cleared)

pub returns-clause-solves : goal.returns-clause-solves
returns-clause-solves c =
    let rows = c.args.blocks.now.unsolved.rows.items in
    let solved = c.args.blocks.now.solved.rows.items in
    let place = c.in-Some.place in
    let pivot = c.remove-row.result in
    let is : IsPivotBelow c.args.column rows (length rows) (Some place) = rw c.deref.ensures.value at c.in-Some.ensures in
    solves_for c.args.column rows solved place is pivot c.remove-row.ensures.value c.clear_rows.new.list.rows.items c.clear_rows-2.new.list.rows.items _
    (rw c.remove-row.ensures.items at c.in_ok-clear_rows.ensures.each) c.in_ok-clear_rows-2.ensures.each c.in_ok-push.ensures.items

pub returns-in_err-clear_rows-clause-passed : goal.returns-in_err-clear_rows-clause-passed
returns-in_err-clear_rows-clause-passed c =
    let rows = c.args.blocks.now.unsolved.rows.items in
    let solved = c.args.blocks.now.solved.rows.items in
    let place = c.in-Some.place in
    let pivot = c.remove-row.result in
    let is : IsPivotBelow c.args.column rows (length rows) (Some place) = rw c.deref.ensures.value at c.in-Some.ensures in
    let p = err_from_is_err_and c.from_residual.result c.from_residual.ensures.1 in
    rw (p.1, p.2) (passes_first c.args.column rows solved place is pivot c.remove-row.ensures.value _ (rw c.remove-row.ensures.items at c.in_err-clear_rows.ensures.passed))

pub returns-in_err-clear_rows-2-clause-passed : goal.returns-in_err-clear_rows-2-clause-passed
returns-in_err-clear_rows-2-clause-passed c =
    let rows = c.args.blocks.now.unsolved.rows.items in
    let solved = c.args.blocks.now.solved.rows.items in
    let place = c.in-Some.place in
    let pivot = c.remove-row.result in
    let is : IsPivotBelow c.args.column rows (length rows) (Some place) = rw c.deref.ensures.value at c.in-Some.ensures in
    let p = err_from_is_err_and c.from_residual-in_err-clear_rows-2.result c.from_residual-in_err-clear_rows-2.ensures.1 in
    rw (p.1, p.2) (passes_second c.args.column rows solved place is pivot c.remove-row.ensures.value _ c.in_err-clear_rows-2.ensures.passed)

pub returns-in_default-clause-solves : goal.returns-in_default-clause-solves
returns-in_default-clause-solves c =
    inl (record {
      none = no_place c.args.column c.args.blocks.now.unsolved.rows.items (length c.args.blocks.now.unsolved.rows.items) c.pivot_place.result (rw c.deref.ensures.value at c.pivot_place.ensures) c.in_default.not-Some;
      unsolved_stays = refl;
      solved_stays = refl;
    })

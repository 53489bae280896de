-- The columns one by one.
use Rattle.std.proofs.Common.{subst, ◌∙◌}
use Rattle.std.proofs.lemmas.List.{take_all}
use Rattle.std.proofs.lemmas.Result.{err_from_is_err_and}
use Rattle.row_reduction.specs.Eliminating.{AreEliminated}
use Rattle.row_reduction.proofs.EliminatingLemmas.{columns_none, columns_more, passes_at_pivot}
use Rattle.row_reduction.proofs.RowLemmas.{joined_none, zeros_follow}
use Rattle.row_reduction.proofs.blocks.solve_columns.Goals as goal

pub loop-column-init : goal.loop-column-init
loop-column-init c = record {
  columns = c.in_ok-unsolved.ensures.columns;
  same = joined_none c.args.system.now.rows c.in_ok-unsolved.unsolved.rows.items c.new.result.items c.new.ensures.items (rw c.in_ok-unsolved.ensures.same (λ x. (λ z. z, λ z. z)));
  eliminated = columns_none c.args.system.now.rows c.in_ok-unsolved.unsolved.rows.items c.new.result.items c.in_ok-unsolved.ensures.same c.new.ensures.items;
}

pub loop-column-preserved : goal.loop-column-preserved
loop-column-preserved c = record {
  columns = c.in_ok-solve_column.ensures.columns ∙ c.loop-column.invariant.columns;
  same = zeros_follow _ _ _ c.loop-column.invariant.same c.in_ok-solve_column.ensures.same;
  eliminated = columns_more c.args.system.now.rows c.args.pivots.now c.loop-column.column-index _ _ c.loop-column-test.true c.loop-column.invariant.eliminated _ _ c.in_ok-solve_column.ensures.solves;
}

pub returns-in_err-solve_column-clause-passed : goal.returns-in_err-solve_column-clause-passed
returns-in_err-solve_column-clause-passed c =
    let p = err_from_is_err_and c.from_residual-in_err-solve_column.result c.from_residual-in_err-solve_column.ensures.1 in
    rw (p.1, p.2) (passes_at_pivot c.args.system.now.rows c.args.pivots.now c.loop-column.column-index _ _ c.loop-column-test.true c.loop-column.invariant.eliminated _ c.in_err-solve_column.ensures.passed)

pub returns-clause-eliminated : goal.returns-clause-eliminated
returns-clause-eliminated c =
    subst (λ columns. AreEliminated c.args.system.now.rows columns c.loop-column.blocks.unsolved.rows.items c.loop-column.blocks.solved.rows.items)
    (take_all c.loop-column.column-index c.args.pivots.now c.loop-column-test.false) c.loop-column.invariant.eliminated

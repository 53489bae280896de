-- Each step preserves the vectors at which the rows are 0.
use Rattle.std.proofs.lemmas.Result.{err_from_is_err_and}
use Rattle.row_reduction.proofs.EliminatingLemmas.{passes_among}
use Rattle.row_reduction.proofs.RowLemmas.{zeros_follow, zeros_ordered}
use Rattle.row_reduction.proofs.blocks.ordered_rows.Goals as goal

pub returns-else-is_changed-clause-same : goal.returns-else-is_changed-clause-same
returns-else-is_changed-clause-same c =
    zeros_ordered c.args.unsolved.rows.items c.in_ok-distinct.distinct.rows.items c.in_ok-list.field-0.list.rows.items c.in_ok-ordered.ordered.rows.items
    c.in_ok-distinct.ensures.same c.in_ok-list.ensures.same c.in_ok-ordered.ensures.permutation

pub returns-in_ok-distinct_rows-clause-same : goal.returns-in_ok-distinct_rows-clause-same
returns-in_ok-distinct_rows-clause-same c =
    zeros_follow c.args.unsolved.rows.items c.in_ok-ordered.ordered.rows.items c.in_ok-distinct_rows.field-0.rows.items
    (zeros_ordered c.args.unsolved.rows.items c.in_ok-distinct.distinct.rows.items c.in_ok-list.field-0.list.rows.items c.in_ok-ordered.ordered.rows.items
    c.in_ok-distinct.ensures.same c.in_ok-list.ensures.same c.in_ok-ordered.ensures.permutation)
    c.in_ok-distinct_rows.ensures.same

pub returns-in_err-list-clause-passed : goal.returns-in_err-list-clause-passed
returns-in_err-list-clause-passed c =
    let p = err_from_is_err_and c.from_residual-in_err-list.result c.from_residual-in_err-list.ensures.1 in
    rw (p.1, p.2) (passes_among c.args.unsolved.rows.items c.in_ok-distinct.distinct.rows.items c.in_ok-distinct.ensures.kept _ c.in_err-list.ensures.passed)

use Rattle.std.proofs.Common.{take_all, subst, ◌∙◌, arith}
use Rattle.lazy_columns.specs.Late.{AreSeen, HaveEntered}
use Rattle.lazy_columns.proofs.Entered.{entered_more, seen_more}
use Rattle.lazy_columns.proofs.entering.enter_row.Goals as goal

pub loop-column-preserved : goal.loop-column-preserved
loop-column-preserved c =
    let old = c.loop-column.late in
    let new = c.enter_unseen.new.late in
    let h = c.in_ok-enter_unseen.ensures in
    let entered = subst (λ n. HaveEntered n old new) c.loop-column.invariant.columns h.entered in
    record {
      columns = h.columns ∙ c.loop-column.invariant.columns;
      entered = entered_more c.args.late.now.columns c.args.late.now old new c.loop-column.invariant.entered entered;
      seen = seen_more c.args.late.now.columns old new c.entries-column-items.result.now c.loop-column.column-index _ entered (omega arith) c.loop-column.invariant.seen h.seen;
    }

pub returns-clause-seen : goal.returns-clause-seen
returns-clause-seen c =
    subst (AreSeen c.loop-column.late.seen.items)
    (take_all c.loop-column.column-index c.entries-column-items.result.now (omega arith) ∙ c.entries-column-items.ensures.entries)
    c.loop-column.invariant.seen

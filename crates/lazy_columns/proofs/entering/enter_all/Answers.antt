use Rattle.std.proofs.Common.{subst, ◌∙◌}
use Rattle.lazy_columns.specs.Late.{HaveEntered}
use Rattle.lazy_columns.proofs.Entered.{entered_more, seen_below}
use Rattle.lazy_columns.proofs.entering.enter_all.Goals as goal

pub loop-column-preserved : goal.loop-column-preserved
loop-column-preserved c =
    let old = c.loop-column.late in
    let new = c.enter_unseen.new.late in
    let h = c.in_ok-enter_unseen.ensures in
    let entered = subst (λ n. HaveEntered n old new) c.loop-column.invariant.columns h.entered in
    record {
      columns = h.columns ∙ c.loop-column.invariant.columns;
      entered = entered_more c.args.late.now.columns c.args.late.now old new c.loop-column.invariant.entered entered;
      seen = seen_below c.args.late.now.columns old new c.loop-column.column entered c.loop-column.invariant.seen h.seen;
    }

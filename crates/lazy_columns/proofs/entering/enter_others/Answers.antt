use Rattle.std.proofs.Common.{take_all, subst, ◌∙◌, arith}
use Rattle.lazy_columns.specs.Fresh.{IsLone}
use Rattle.lazy_columns.specs.Late.{HaveEntered}
use Rattle.lazy_columns.proofs.Entered.{entered_more, lone_more}
use Rattle.lazy_columns.proofs.entering.enter_others.Goals as goal

pub loop-other-preserved : goal.loop-other-preserved
loop-other-preserved c =
    let old = c.loop-other.late in
    let new = c.enter_other.new.late in
    let h = c.in_ok-enter_other.ensures in
    let entered = subst (λ n. HaveEntered n old new) c.loop-other.invariant.columns h.entered in
    record {
      columns = h.columns ∙ c.loop-other.invariant.columns;
      entered = entered_more c.args.late.now.columns c.args.late.now old new c.loop-other.invariant.entered entered;
      lone = lone_more c.args.late.now.columns old new c.entries-other-items.result.now c.loop-other.other-index _ c.args.column entered (omega arith) c.loop-other.invariant.lone h.seen;
      unseen = h.unseen;
    }

pub returns-clause-lone : goal.returns-clause-lone
returns-clause-lone c =
    subst (λ row. IsLone row c.loop-other.late.seen.items c.args.column)
    (take_all c.loop-other.other-index c.entries-other-items.result.now (omega arith) ∙ c.entries-other-items.ensures.entries)
    c.loop-other.invariant.lone

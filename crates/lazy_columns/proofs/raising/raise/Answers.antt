use Rattle.std.proofs.Common.{subst, sym}
use Rattle.lazy_columns.specs.Raised.{AppendsRaised}
use Rattle.lazy_columns.proofs.raising.raise.Goals as goal

pub returns-in_ok-push-in-Negative : goal.returns-in_ok-push-in-Negative
returns-in_ok-push-in-Negative c =
    subst (λ sign. AppendsRaised c.args.before.column sign c.args.before.kept c.args.next.now.items c.push-in-Negative.new.self.items) (sym c.in-Negative.is)
    (c.in_ok-after-in-Negative.after, c.in_ok-after-in-Negative.ensures, c.in_ok-push-in-Negative.ensures.items)

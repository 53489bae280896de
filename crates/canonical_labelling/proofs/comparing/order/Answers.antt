use Rattle.std.proofs.Common.{sym, ◌∙◌}
use Rattle.signature_laws.proofs.Uniqueness.{neither_before}
use Rattle.canonical_labelling.proofs.comparing.order.Goals as goal

pub returns-else-is_before-2-clause-equal : goal.returns-else-is_before-2-clause-equal
returns-else-is_before-2-clause-equal c = neither_before c.args.first.now c.args.second.now (sym c.is_before.ensures ∙ c.if-is_before.false) (sym c.is_before-else-is_before.ensures ∙ c.if-is_before-2.false)

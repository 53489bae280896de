use Rattle.std.proofs.Common.{arith, sym, ◌∙◌}
use Rattle.canonical_labelling.proofs.Telling.{told_found, told_next}
use Rattle.canonical_labelling.proofs.comparing.compare_head.Goals as goal

pub returns-then-is_some : goal.returns-then-is_some
returns-then-is_some c =
    told_found c.loop-i.i c.args.text.now c.args.bound.now c.compare_at-reported.result c.loop-i-test.true c.loop-i.invariant.1 c.compare_at-reported.ensures (sym c.is_some.ensures ∙ c.if-is_some.true)

pub loop-i-preserved : goal.loop-i-preserved
loop-i-preserved c = let low = c.loop-i-test.true in
    (omega (arith, low), told_next c.loop-i.i c.args.text.now c.args.bound.now c.compare_at-reported.result c.loop-i-test.true c.loop-i.invariant.1 c.compare_at-reported.ensures (sym c.is_some.ensures ∙ c.if-is_some.false))

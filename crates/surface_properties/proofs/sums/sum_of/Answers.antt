-- One entry more.
use Rattle.std.proofs.Common.{sym, ap, ◌∙◌}
use Rattle.std.specs.Prelude.{sum}
use Rattle.std.proofs.lemmas.List.{take_all}
use Rattle.surface_properties.specs.Capped.{capped}
use Rattle.surface_properties.proofs.CappedSums.{capped_zero, capped_step}
use Rattle.surface_properties.proofs.sums.sum_of.Goals as goal

pub loop-entry-init : goal.loop-entry-init
loop-entry-init c = sym capped_zero

pub loop-entry-preserved : goal.loop-entry-preserved
loop-entry-preserved c = c.add-total.ensures ∙ capped_step (λ n. n) c.args.x.now c.loop-entry.entry-index 0 c.loop-entry.total c.loop-entry-test.true c.loop-entry.invariant

pub returns : goal.returns
returns c = c.loop-entry.invariant ∙ ap (λ cs. capped (sum cs)) (take_all c.loop-entry.entry-index c.args.x.now c.loop-entry-test.false)

-- One entry more.
use Rattle.std.proofs.Common.{sym, ap, ◌∙◌}
use Rattle.std.specs.Prelude.{sum_by, slice_index}
use Rattle.std.proofs.lemmas.List.{take_all}
use Rattle.surface_properties.specs.Capped.{capped}
use Rattle.surface_properties.proofs.CappedSums.{capped_zero, capped_step}
use Rattle.surface_properties.proofs.sums.sum_at.Goals as goal

pub loop-column-init : goal.loop-column-init
loop-column-init c = sym capped_zero

pub loop-column-preserved : goal.loop-column-preserved
loop-column-preserved c =
    c.add-total.ensures ∙ capped_step (slice_index c.args.x.now) c.args.columns.now c.loop-column.column-index 0 c.loop-column.total c.loop-column-test.true c.loop-column.invariant

pub returns : goal.returns
returns c = c.loop-column.invariant ∙ ap (λ cs. capped (sum_by (slice_index c.args.x.now) cs)) (take_all c.loop-column.column-index c.args.columns.now c.loop-column-test.false)

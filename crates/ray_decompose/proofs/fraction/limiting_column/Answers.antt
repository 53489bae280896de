use Rattle.std.proofs.Common.{sym, ◌∙◌}
use Rattle.std.proofs.lemmas.Bool.{false≢true}
use Rattle.ray_decompose.proofs.Comparing.{kept_least, zero_least, new_least}
use Rattle.ray_decompose.proofs.fraction.limiting_column.Goals as goal
use Rattle.ray_decompose.proofs.fraction.limiting_column.Goals.{then-not-is_at_most, else-not-is_at_most}

pub loop-column-preserved-then-ray-column-eq0 : goal.loop-column-preserved-then-ray-column-eq0
loop-column-preserved-then-ray-column-eq0 c = zero_least c.args.division.rest.now c.args.division.ray.now c.loop-column.column c.loop-column.least c.loop-column.invariant c.if-ray-column-eq0.true

pub loop-column-preserved : goal.loop-column-preserved
loop-column-preserved c = elim c.if-not-is_at_most.branch [
  | then-not-is_at_most w ↦ rw w.least-is (new_least c.args.division.rest.now c.args.division.ray.now c.loop-column.column c.loop-column.least c.loop-column.invariant c.if-ray-column-eq0.false (λ l. absurd (false≢true (sym w.if-not-is_at_most.true ∙ c.is_at_most.ensures.1 l))))
  | else-not-is_at_most w ↦ rw w.least-is (kept_least c.args.division.rest.now c.args.division.ray.now c.loop-column.column c.loop-column.least c.loop-column.invariant (c.is_at_most.ensures.0 w.if-not-is_at_most.false))
]

-- the union of the sets of the columns so far
use Rattle.ray_steps.specs.Partners.{IsJoinedBelow}
use Rattle.ray_steps.proofs.compatible.Clashes.joined.Given as goal

abbrev pub invariant-loop-column : goal.invariant-loop-column
invariant-loop-column g l = IsJoinedBelow l.column l.self-inside.partners.items l.support l.joined

use Rattle.ray_steps.specs.Steps.{AreMadeBelow}
use Rattle.ray_steps.proofs.step.Step.combine_each.Given as goal

abbrev pub invariant-loop-i : goal.invariant-loop-i
invariant-loop-i g l = AreMadeBelow l.self l.i l.made

use Rattle.std.specs.List.{All}
use Rattle.ray_steps.specs.Adjacent.{IsOuterOf}
use Rattle.ray_steps.proofs.step.Step.outers.Given as goal

abbrev pub invariant-loop-i : goal.invariant-loop-i
invariant-loop-i g l = All (IsOuterOf l.self) l.outers.items

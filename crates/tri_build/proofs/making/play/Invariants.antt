-- Each step so far was drawn in its state and played.
use Rattle.std.proofs.Common.{◌≤◌, ◌-◌, length}
use Rattle.certificate_definitions.specs.SoFar.{MakesSoFar}
use Rattle.tri_build.specs.Steps.{AreSteps, moves_of}
use Rattle.tri_build.proofs.making.play.Given as goal

abbrev pub invariant-loop-alloc : goal.invariant-loop-alloc
invariant-loop-alloc l =
    MakesSoFar (record { state = l.fn.seed; table = l.initial.table }) (moves_of l.steps.items) (record { state = l.state; table = l.table })
    × AreSteps l.initial.table l.steps.items l.table × (length l.steps.items ≤ l.fn.most)

abbrev pub decreases-loop-alloc : goal.decreases-loop-alloc
decreases-loop-alloc l = l.fn.most - length l.steps.items

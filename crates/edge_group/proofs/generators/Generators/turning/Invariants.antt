use Rattle.std.proofs.Common.{take}
use Rattle.std.specs.List.{AllZip}
use Rattle.presentation_definitions.specs.Presentations.{IsTurning}
use Rattle.edge_group.proofs.generators.Generators.turning.Given as goal

abbrev pub invariant-loop-class : goal.invariant-loop-class
invariant-loop-class l = AllZip (IsTurning l.self-inside.skeleton.now) (take l.class-index l.class-items) l.turning.items

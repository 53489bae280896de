-- The tables of the components so far.
use Rattle.std.proofs.Common.{◌≡◌, map}
use Rattle.table_definitions.specs.Lists.{below}
use Rattle.component_signature.specs.Components.{part_of}
use Rattle.component_signature.proofs.split.parts.Given as goal

abbrev pub invariant-loop-component : goal.invariant-loop-component
invariant-loop-component l = l.parts.items ≡ map (part_of l.table l.components.classes.items) (below l.component)

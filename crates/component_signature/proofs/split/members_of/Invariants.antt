-- The tetrahedra of the component so far.
use Rattle.std.proofs.Common.{◌≡◌, filter, slice_index}
use Rattle.std.specs.Prelude.{◌==◌}
use Rattle.table_definitions.specs.Lists.{below}
use Rattle.component_signature.proofs.split.members_of.Given as goal

abbrev pub invariant-loop-tet : goal.invariant-loop-tet
invariant-loop-tet l = l.members.items ≡ filter (λ t. slice_index l.classes t == l.fn.class) (below l.tet)

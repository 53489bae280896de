use Rattle.std.proofs.Common.{◌≡◌, map, []}
use Rattle.std.specs.Prelude.{slice_index}
use Rattle.std.specs.List.{slice_index_or}
use Rattle.table_definitions.specs.Lists.{below}
use Rattle.table_definitions.specs.Permutation.{inverse, compose}
use Rattle.canonical_labelling.proofs.between.perms_of.Given as goal

abbrev pub invariant-loop-tet : goal.invariant-loop-tet
invariant-loop-tet l =
    l.perms.items ≡ map (λ t. compose (inverse (slice_index_or l.pair.second.now.perms (slice_index l.images t) [])) (slice_index_or l.pair.first.now.perms t [])) (below l.tet)

use Rattle.std.proofs.Common.{◌≡◌, map}
use Rattle.std.specs.Prelude.{slice_index}
use Rattle.table_definitions.specs.Lists.{below}
use Rattle.canonical_labelling.proofs.between.images_of.Given as goal

abbrev pub invariant-loop-tet : goal.invariant-loop-tet
invariant-loop-tet l = l.images.items ≡ map (λ t. slice_index l.olds (slice_index l.pair.first.now.images t)) (below l.tet)

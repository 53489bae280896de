use Rattle.std.proofs.Common.{length}
use Rattle.sum_definitions.specs.Sums.{ReachesState}
use Rattle.ray_decompose.proofs.Bounds.{NoneBefore}
use Rattle.ray_decompose.proofs.decomposing.decompose.Given as goal

abbrev pub invariant-loop-ray : goal.invariant-loop-ray
invariant-loop-ray l = record {
  led : ReachesState l.limit l.list l.x (length l.terms.items) (record { times = l.times; terms = l.terms.items; rest = l.rest.items });
  none : NoneBefore l.list l.rest.items l.ray-index;
}

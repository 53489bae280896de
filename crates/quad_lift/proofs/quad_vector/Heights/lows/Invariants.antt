-- The least height of each class, of the vertices so far.
use Rattle.quad_lift.proofs.LeastHeights.{AreLowsBefore}
use Rattle.quad_lift.proofs.quad_vector.Heights.lows.Given as goal

abbrev pub invariant-loop-vertex : goal.invariant-loop-vertex
invariant-loop-vertex l = AreLowsBefore l.self.vector.skeleton.now l.self.values.now l.vertex l.lows.items

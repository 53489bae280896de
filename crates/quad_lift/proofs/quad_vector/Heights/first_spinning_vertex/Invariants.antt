-- No vertex so far shows an error in a smaller class.
use Rattle.quad_lift.proofs.LeastWrong.{IsLeastWrongBefore}
use Rattle.quad_lift.proofs.quad_vector.Heights.first_spinning_vertex.Given as goal

abbrev pub invariant-loop-vertex : goal.invariant-loop-vertex
invariant-loop-vertex l = IsLeastWrongBefore l.self.vector.skeleton.now l.self.vector.entries.now l.self.values.now l.vertex l.least

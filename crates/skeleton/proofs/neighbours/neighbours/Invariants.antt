use Rattle.skeleton_class_laws.specs.Neighbours.{AreNeighbours}
use Rattle.skeleton_class_laws.specs.Numberings.{crossing}
use Rattle.skeleton.proofs.neighbours.neighbours.Given as goal

abbrev pub invariant-loop-place : goal.invariant-loop-place
invariant-loop-place l = AreNeighbours l.place (crossing l.kind l.table) l.rows.items

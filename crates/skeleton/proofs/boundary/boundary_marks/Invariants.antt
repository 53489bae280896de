use Rattle.std.proofs.Common.{length}
use Rattle.skeleton.specs.Parts.{AreBoundaryMarksUpTo}
use Rattle.skeleton.proofs.boundary.boundary_marks.Given as goal

abbrev pub invariant-loop-edge : goal.invariant-loop-edge
invariant-loop-edge l = AreBoundaryMarksUpTo l.edge l.table l.classes (length l.edges.firsts.items) l.marks.items

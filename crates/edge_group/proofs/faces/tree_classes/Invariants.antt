use Rattle.presentation_laws.specs.Classes.{AreTreeClassesBelow}
use Rattle.edge_group.proofs.faces.tree_classes.Given as goal

abbrev pub invariant-loop-tet : goal.invariant-loop-tet
invariant-loop-tet l = AreTreeClassesBelow l.skeleton l.tet l.marks.items

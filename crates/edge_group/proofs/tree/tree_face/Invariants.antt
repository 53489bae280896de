use Rattle.edge_group.specs.Across.{IsLeastCloser}
use Rattle.edge_group.proofs.tree.tree_face.Given as goal

abbrev pub invariant-loop-face : goal.invariant-loop-face
invariant-loop-face l = IsLeastCloser l.at.table.now l.at.tet l.face l.least

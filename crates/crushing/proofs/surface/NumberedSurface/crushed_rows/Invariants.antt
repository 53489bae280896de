-- The rows of the tetrahedra that stay, so far.
use Rattle.crushing.specs.Rows.{AreCrushedBefore}
use Rattle.crushing.proofs.surface.NumberedSurface.crushed_rows.Given as goal

abbrev pub invariant-loop-tet : goal.invariant-loop-tet
invariant-loop-tet l = AreCrushedBefore l.self.surface.table.now l.self.surface.entries.now l.tet l.rows.items

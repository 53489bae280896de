-- The vertices so far are marked, each with its whole class.
use Rattle.std.proofs.Common.{ℕ, ◌<◌}
use Rattle.table_walk_laws.specs.Search.{IsMarked, IsClosed}
use Rattle.quad_lift.specs.Spreads.{vertices_around, AreSpread}
use Rattle.quad_lift.proofs.quad_vector.QuadVector.heights.Given as goal

abbrev pub invariant-loop-root : goal.invariant-loop-root
invariant-loop-root l = record {
  spread : AreSpread l.self.skeleton.now l.self.entries.now l.marked.items l.heights.items;
  closed : IsClosed (vertices_around l.self.skeleton.now.rows) l.marked.items;
  passed : (i : ℕ) → i < l.root → IsMarked l.marked.items i;
}

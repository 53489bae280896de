-- The state of a search, whose marked vertices have heights.
use Rattle.std.proofs.Common.{true, set}
use Rattle.table_walk_laws.specs.Search.{IsSearch, work_left}
use Rattle.quad_lift.specs.Spreads.{vertices_around, AreSpread}
use Rattle.quad_lift.proofs.quad_vector.QuadVector.spread.Given as goal

abbrev pub invariant-loop-vertex : goal.invariant-loop-vertex
invariant-loop-vertex l = record {
  spread : AreSpread l.self.skeleton.now l.self.entries.now l.marked l.heights;
  search : IsSearch (vertices_around l.self.skeleton.now.rows) (set l.fn.marked l.root true) l.marked l.pending.items;
}

abbrev pub decreases-loop-vertex : goal.decreases-loop-vertex
decreases-loop-vertex l = work_left l.marked l.pending.items

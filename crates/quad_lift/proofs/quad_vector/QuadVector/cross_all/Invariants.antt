-- The heights are spread, and the faces before are done.
use Rattle.std.proofs.Common.{◌≡◌, List, Bool}
use Rattle.table_walk_laws.specs.Search.{IsMarked, IsSearchStep, work_left}
use Rattle.quad_lift.specs.Spreads.{vertices_around, neighbours_before, AreSpread}
use Rattle.quad_lift.proofs.quad_vector.QuadVector.cross_all.Given as goal

abbrev pub invariant-loop-face : goal.invariant-loop-face
invariant-loop-face l = record {
  spread : AreSpread l.self.skeleton.now l.self.entries.now l.marked l.heights;
  still_marked : IsMarked l.marked l.vertex;
  turn : (first : List Bool) → IsSearchStep (vertices_around l.self.skeleton.now.rows) first l.vertex (neighbours_before l.self.skeleton.now.rows l.vertex 0) l.initial.marked l.initial.pending.items → IsSearchStep (vertices_around l.self.skeleton.now.rows) first l.vertex (neighbours_before l.self.skeleton.now.rows l.vertex l.face) l.marked l.pending.items;
  work : work_left l.marked l.pending.items ≡ work_left l.initial.marked l.initial.pending.items;
}

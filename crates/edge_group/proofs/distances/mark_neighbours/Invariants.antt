use Rattle.std.proofs.Common.{◌<◌}
use Rattle.table_definitions.specs.Table.{IsTable}
use Rattle.edge_group.specs.Searches.{HasGrown, IsFaceBelow}
use Rattle.edge_group.proofs.distances.mark_neighbours.Given as goal

-- if a face was crossed, the rows are known to be a table
abbrev pub invariant-loop-face : goal.invariant-loop-face
invariant-loop-face l = record {
  grown : HasGrown l.at.table.now (IsFaceBelow l.at.tet l.face) l.distance l.fn.marks l.marks l.fn.next.items l.next.items;
  is_table : 0 < l.face → IsTable l.at.table.now;
}

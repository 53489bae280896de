use Rattle.std.proofs.Common.{◌<◌, length}
use Rattle.edge_group.specs.Searches.{mark_of}
use Rattle.edge_group.proofs.Paths.{IsPathOn, distance_or}
use Rattle.edge_group.proofs.turning.is_path_odd.Given as goal

abbrev pub invariant-path : goal.invariant-path
invariant-path l = record {
  in_range : l.tet < length l.at.table.now;
  on : IsPathOn l.at.table.now l.fn.at.tet l.tet l.odd;
}

abbrev pub decreases-path : goal.decreases-path
decreases-path l = distance_or (mark_of l.tree.distances.items l.tet)

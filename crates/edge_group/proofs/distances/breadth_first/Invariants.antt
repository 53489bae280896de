use Rattle.std.proofs.Common.{◌+◌, ◌≤◌, length}
use Rattle.edge_group.specs.Searches.{IsSearched, unmarked}
use Rattle.edge_group.proofs.distances.breadth_first.Given as goal

-- the levels have no more tetrahedra than the table
abbrev pub invariant-levels : goal.invariant-levels
invariant-levels l = record {
  searched : IsSearched l.table l.distance l.marks.items l.level.items;
  limited : l.distance + (unmarked l.marks.items + length l.level.items) ≤ length l.table;
}

abbrev pub decreases-levels : goal.decreases-levels
decreases-levels l = unmarked l.marks.items + length l.level.items

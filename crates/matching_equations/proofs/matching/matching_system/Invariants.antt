use Rattle.std.proofs.Common.{◌≡◌, [], ◌*◌, ◌≤◌, ◌++◌, length}
use Rattle.std.specs.List.{flat_map}
use Rattle.surface_definitions.specs.Coordinates as coordinates
use Rattle.table_definitions.specs.Lists.{below}
use Rattle.matching_equations.specs.Matching.{tet_rows}
use Rattle.matching_equations.proofs.matching.matching_system.Given as goal

abbrev pub invariant-loop-tet : goal.invariant-loop-tet
invariant-loop-tet l = record {
  columns : l.system.columns ≡ coordinates.columns l.coords.system (length l.table);
  rows : l.system.rows ≡ [] ++ flat_map (tet_rows l.coords.system l.table (coordinates.columns l.coords.system (length l.table))) (below l.tet);
  limited : length l.system.rows ≤ 16 * l.tet;
}

use Rattle.std.proofs.Common.{◌≡◌, ◌+◌, ◌*◌, ◌≤◌, ◌++◌, length}
use Rattle.std.specs.List.{flat_map}
use Rattle.table_definitions.specs.Lists.{below}
use Rattle.table_definitions.proofs.Faces.{face_at}
use Rattle.matching_equations.specs.Matching.{face_rows}
use Rattle.matching_equations.proofs.matching.push_tet.Given as goal

abbrev pub invariant-loop-face : goal.invariant-loop-face
invariant-loop-face l = record {
  columns : l.system.columns ≡ l.fn.system.columns;
  rows : l.system.rows ≡ l.fn.system.rows ++ flat_map (λ f. face_rows l.coords.system l.table l.fn.system.columns (face_at l.tet f)) (below l.face);
  limited : length l.system.rows ≤ length l.fn.system.rows + 4 * l.face;
}

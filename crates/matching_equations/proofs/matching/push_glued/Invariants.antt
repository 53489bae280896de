use Rattle.std.proofs.Common.{◌≡◌, ◌+◌, ◌≤◌, ◌++◌, length}
use Rattle.matching_equations.proofs.Matched.{glued_before}
use Rattle.matching_equations.proofs.matching.push_glued.Given as goal

abbrev pub invariant-loop-vertex : goal.invariant-loop-vertex
invariant-loop-vertex l = record {
  columns : l.system.columns ≡ l.fn.system.columns;
  rows : l.system.rows ≡ l.fn.system.rows ++ glued_before l.coords.system l.fn.system.columns l.pair.face l.pair.glue l.vertex;
  limited : length l.system.rows ≤ length l.fn.system.rows + l.vertex;
}

use Rattle.std.proofs.Common.{◌≡◌, ◌≤◌, take}
use Rattle.table_definitions.specs.Lists as lists
use Rattle.matching_equations.proofs.equation.times_in.Given as goal

abbrev pub invariant-loop-other : goal.invariant-loop-other
invariant-loop-other l = record {
  value : l.times ≡ lists.times_in (take l.other-index l.columns) l.column;
  limited : l.times ≤ l.other-index;
}

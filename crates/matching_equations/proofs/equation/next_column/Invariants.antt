use Rattle.std.proofs.Common.{ℕ, ◌<◌, ◌≤◌, get_or}
use Rattle.matching_equations.proofs.equation.next_column.Given as goal

abbrev pub invariant-loop-column : goal.invariant-loop-column
invariant-loop-column l = record {
  least : l.from ≤ l.next;
  within : l.next ≤ l.end;
  none_before : (k : ℕ) → k < l.column-index → l.from ≤ get_or l.columns k 0 → l.next ≤ get_or l.columns k 0;
}

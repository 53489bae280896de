use Rattle.std.proofs.Common.{◌≡◌, length}
use Rattle.worked_cones.proofs.support_table_calls.support_of.Given as goal

abbrev pub invariant-loop-column : goal.invariant-loop-column
invariant-loop-column l = length l.support ≡ l.columns

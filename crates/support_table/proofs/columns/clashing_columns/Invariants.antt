use Rattle.std.proofs.Common.{◌≡◌, length}
use Rattle.support_table.proofs.columns.clashing_columns.Given as goal

abbrev pub invariant-loop-outer : goal.invariant-loop-outer
invariant-loop-outer l = length l.clashing ≡ l.search.rays.now.columns

use Rattle.std.proofs.Common.{◌≡◌, length}
use Rattle.worked_cones.proofs.support_table_calls.many_at_once.Given as goal

abbrev pub invariant-loop-seed : goal.invariant-loop-seed
invariant-loop-seed g l = length l.selected.items ≡ length l.rows.items

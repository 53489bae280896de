-- the table of the rays so far
use Rattle.std.proofs.Common.{◌≡◌}
use Rattle.support_table.proofs.NarrowLoops.{narrowed_below}
use Rattle.support_table.proofs.narrow.narrowed_table.Given as goal

abbrev pub invariant-loop-place : goal.invariant-loop-place
invariant-loop-place l = l.table ≡ narrowed_below l.used l.rays l.place

use Rattle.std.proofs.Common.{◌≡◌, ◌*◌}
use Rattle.support_table.specs.Counts.{bits_in_either}
use Rattle.support_table.proofs.counts.union_count.Given as goal

abbrev pub invariant-loop-k : goal.invariant-loop-k
invariant-loop-k l = l.count ≡ bits_in_either (64 * l.k) l.a l.b

-- The number of terms is at most the greatest.
use Rattle.std.proofs.Common.{arith}
use Rattle.cone_core.proofs.ConeLemmas.{number_at-within}
use Rattle.sum_commands.proofs.blocks.read_times.Goals as goal

pub overflow_cast-count : goal.overflow_cast-count
overflow_cast-count c = let within = number_at-within 10000 c.number.new.self _ c.in_ok-count.ensures in grind arith

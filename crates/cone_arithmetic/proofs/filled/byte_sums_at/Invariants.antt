-- the sums at the columns of the words so far are filled in
use Rattle.std.proofs.Common.{◌*◌}
use Rattle.cone_definitions.specs.Vectors.{multiple, sum_of}
use Rattle.cone_arithmetic.specs.Filled.{AreFilled}
use Rattle.cone_arithmetic.proofs.filled.byte_sums_at.Given as goal

abbrev pub invariant-loop-k : goal.invariant-loop-k
invariant-loop-k l = AreFilled l.most (sum_of (multiple l.combination.a l.combination.w.now) (multiple l.combination.b l.combination.u.now)) (64 * l.k) l.sums.items

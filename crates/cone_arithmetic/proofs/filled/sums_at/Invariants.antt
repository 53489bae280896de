-- the sums at the columns of the words so far are filled in
use Rattle.std.proofs.Common.{◌*◌}
use Rattle.cone_definitions.specs.Vectors.{multiple, sum_of}
use Rattle.cone_arithmetic.specs.NarrowEntries.{narrow_numbers}
use Rattle.cone_arithmetic.specs.Filled.{AreFilled}
use Rattle.cone_arithmetic.proofs.filled.sums_at.Given as goal

abbrev pub invariant-loop-k : goal.invariant-loop-k
invariant-loop-k l = AreFilled l.limit (sum_of (multiple l.combination.a (narrow_numbers l.combination.w)) (multiple l.combination.b (narrow_numbers l.combination.u))) (64 * l.k) l.sums.items

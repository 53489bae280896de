-- the sums before the column are filled in, and the remaining bits name the columns from it on
use Rattle.std.proofs.Common.{◌+◌, ◌*◌}
use Rattle.cone_definitions.specs.Vectors.{multiple, sum_of}
use Rattle.cone_arithmetic.specs.Filled.{AreFilled, NamesColumns}
use Rattle.cone_arithmetic.proofs.filled.fill_bytes.Given as goal

abbrev pub invariant-loop-rest : goal.invariant-loop-rest
invariant-loop-rest l = record {
  filled : AreFilled l.most (sum_of (multiple l.a l.w) (multiple l.b l.u)) l.column l.sums.items;
  names : NamesColumns (sum_of (multiple l.a l.w) (multiple l.b l.u)) l.column (64 * l.k + 64) l.rest;
}

abbrev pub decreases-loop-rest : goal.decreases-loop-rest
decreases-loop-rest l = l.rest

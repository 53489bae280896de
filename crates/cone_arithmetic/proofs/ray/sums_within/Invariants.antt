use Rattle.std.proofs.Common.{◌≡◌, ℕ, ◌<◌, ◌≤◌, take, get_or}
use Rattle.cone_definitions.specs.Vectors.{multiple, sum_of}
use Rattle.cone_arithmetic.proofs.ray.sums_within.Given as goal

abbrev pub invariant-loop-column : goal.invariant-loop-column
invariant-loop-column l = record {
  sums : l.sums.items ≡ take l.column (sum_of (multiple l.a l.w) (multiple l.b l.u));
  within : (k : ℕ) → k < l.column → get_or (sum_of (multiple l.a l.w) (multiple l.b l.u)) k 0 ≤ l.limit;
}

-- the numbers so far are written
use Rattle.std.proofs.Common.{◌≡◌, ℕ, ◌<◌, length}
use Rattle.std.specs.Prelude.{slice_index}
use Rattle.cone_arithmetic.proofs.entries.bytes_of.Given as goal

abbrev pub invariant-loop-column : goal.invariant-loop-column
invariant-loop-column l = record {
  count : length l.bytes.items ≡ length l.small;
  before : (k : ℕ) → k < l.column → slice_index l.bytes.items k ≡ slice_index l.small k;
}

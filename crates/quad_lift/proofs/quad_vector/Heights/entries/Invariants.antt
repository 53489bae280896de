-- The entries so far.
use Rattle.std.proofs.Common.{◌≡◌, ℕ, ◌<◌, length}
use Rattle.std.specs.Prelude.{slice_index}
use Rattle.quad_lift.specs.Agreements.{lifted_entry}
use Rattle.quad_lift.proofs.quad_vector.Heights.entries.Given as goal

abbrev pub invariant-loop-column : goal.invariant-loop-column
invariant-loop-column l = record {
  size : length l.entries.items ≡ l.column;
  each : (i : ℕ) → i < l.column → slice_index l.entries.items i ≡ lifted_entry l.self.vector.skeleton.now l.self.vector.entries.now l.self.values.now l.lows i;
}

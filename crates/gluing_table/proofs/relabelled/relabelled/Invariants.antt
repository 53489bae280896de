-- The rows so far.
use Rattle.std.proofs.Common.{◌≡◌, ℕ, ◌<◌, ◌≤◌, [], length, get_or, vec_capacity}
use Rattle.table_definitions.specs.Moved.{moved_row}
use Rattle.gluing_table.proofs.relabelled.relabelled.Given as goal

abbrev pub invariant-loop-tet : goal.invariant-loop-tet
invariant-loop-tet l = record {
  so_far : length l.new.items ≡ l.tet;
  each : (k : ℕ) → k < l.tet → get_or l.new.items k [] ≡ moved_row l.table l.by (get_or l.olds.items k 0);
  room : 1000 ≤ vec_capacity l.new;
}

-- The rows so far.
use Rattle.std.proofs.Common.{◌≡◌, ℕ, ◌<◌, [], length}
use Rattle.std.specs.List.{slice_index_or}
use Rattle.surface_pieces.specs.Searches.{piece_in}
use Rattle.surface_pieces.specs.Readings.{IsReadRow}
use Rattle.surface_pieces.proofs.surface.AdjacentDiscs.rows_of.Given as goal

abbrev pub invariant-loop-number : goal.invariant-loop-number
invariant-loop-number g l = record {
  size : length l.rows.items ≡ l.number;
  each : (i : ℕ) → i < l.number → IsReadRow l.kind i (slice_index_or l.self.rows.now (piece_in l.kind i) []) (slice_index_or l.rows.items i []);
}

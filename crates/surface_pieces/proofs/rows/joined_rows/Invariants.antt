-- The rows so far.
use Rattle.std.proofs.Common.{◌≡◌, ℕ, ◌<◌, [], length}
use Rattle.std.specs.List.{slice_index_or}
use Rattle.surface_definitions.specs.Pieces.{discs_of}
use Rattle.surface_laws.proofs.PieceNumbers.{no_piece}
use Rattle.surface_pieces.specs.Joinings.{IsJoinedRow}
use Rattle.surface_pieces.proofs.rows.joined_rows.Given as goal

abbrev pub invariant-loop-piece : goal.invariant-loop-piece
invariant-loop-piece g l = record {
  size : length l.joined.items ≡ l.piece-index;
  each : (i : ℕ) → i < l.piece-index
      → IsJoinedRow l.pieces.surface.table.now l.pieces.surface.coords.system l.pieces.surface.entries.now (slice_index_or (discs_of l.pieces.surface.entries.now) i no_piece) (slice_index_or l.joined.items i []);
}

-- The slots so far.
use Rattle.surface_pieces.specs.Joinings.{IsJoinedUpTo}
use Rattle.surface_pieces.proofs.rows.joined_row.Given as goal

abbrev pub invariant-loop-slot : goal.invariant-loop-slot
invariant-loop-slot g l = IsJoinedUpTo l.disc.pieces.surface.table.now l.disc.pieces.surface.coords.system l.disc.pieces.surface.entries.now l.disc.piece l.slot l.row

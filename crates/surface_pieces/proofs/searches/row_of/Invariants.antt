-- The slots so far.
use Rattle.surface_pieces.specs.Readings.{IsReadUpTo}
use Rattle.surface_pieces.proofs.searches.row_of.Given as goal

abbrev pub invariant-loop-slot : goal.invariant-loop-slot
invariant-loop-slot g l = IsReadUpTo l.kind l.number l.slot l.joined l.row

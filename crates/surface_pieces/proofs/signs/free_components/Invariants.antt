-- The pieces so far.
use Rattle.surface_pieces.proofs.Freeing.{AreFreeUpTo}
use Rattle.surface_pieces.proofs.signs.free_components.Given as goal

abbrev pub invariant-loop-piece : goal.invariant-loop-piece
invariant-loop-piece l = AreFreeUpTo l.signed l.components.classes.items l.components.count l.piece l.free.items

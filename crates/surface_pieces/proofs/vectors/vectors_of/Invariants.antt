-- The pieces so far.
use Rattle.surface_pieces.proofs.Tallies.{AreTallies}
use Rattle.surface_pieces.proofs.vectors.vectors_of.Given as goal

abbrev pub invariant-loop-number : goal.invariant-loop-number
invariant-loop-number l = AreTallies l.pieces.surface.entries.now l.components l.count l.number l.vectors.items

-- The entries so far.
use Rattle.std.proofs.Common.{◌≡◌, take}
use Rattle.surface_pieces.proofs.counts.entries_of.Given as goal

abbrev pub invariant-loop-entry : goal.invariant-loop-entry
invariant-loop-entry l = l.entries.items ≡ take l.entry-index l.x

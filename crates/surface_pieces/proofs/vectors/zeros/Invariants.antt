-- The vectors so far.
use Rattle.std.proofs.Common.{◌≡◌, replicate}
use Rattle.surface_vector_definitions.specs.Entries.{all_entries}
use Rattle.surface_pieces.proofs.vectors.zeros.Given as goal

abbrev pub invariant-loop-made : goal.invariant-loop-made
invariant-loop-made l = all_entries l.vectors.items ≡ replicate l._made (replicate l.columns 0)

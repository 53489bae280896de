-- The pieces of the columns so far.
use Rattle.std.proofs.Common.{◌≡◌, flat_map}
use Rattle.table_definitions.specs.Lists.{below}
use Rattle.surface_laws.proofs.PieceNumbers.{of_column}
use Rattle.surface_pieces.proofs.numbers.all_pieces.Given as goal

abbrev pub invariant-loop-column : goal.invariant-loop-column
invariant-loop-column l = l.listed.items ≡ flat_map (of_column l.surface.entries.now) (below l.column)

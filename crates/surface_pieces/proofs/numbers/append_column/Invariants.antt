-- The pieces so far.
use Rattle.std.proofs.Common.{◌≡◌, ◌++◌, map}
use Rattle.table_definitions.specs.Lists.{below}
use Rattle.surface_laws.proofs.PieceNumbers.{piece_at}
use Rattle.surface_pieces.proofs.numbers.append_column.Given as goal

abbrev pub invariant-loop-number : goal.invariant-loop-number
invariant-loop-number l = l.listed.items ≡ l.fn.listed.items ++ map (piece_at l.column) (below l.number)

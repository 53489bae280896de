use Rattle.std.proofs.Common.{◌≡◌, ◌+◌, ℕ, take, length, get_or}
use Rattle.number_bounds.proofs.Tallies.{row_square}
use Rattle.number_bounds.proofs.squares.add_row.Given as goal

abbrev pub invariant-loop-column : goal.invariant-loop-column
invariant-loop-column l = record {
  count : length l.squares ≡ length l.fn.squares;
  each : (j : ℕ) → get_or l.squares j 0 ≡ get_or l.fn.squares j 0 + row_square j (take l.column-index l.row);
}

use Rattle.std.proofs.Common.{◌≡◌, ℕ, take, length, get_or}
use Rattle.cone_square_laws.specs.Squares.{sum_of_squares}
use Rattle.number_bounds.proofs.squares.column_squares.Given as goal

abbrev pub invariant-loop-number : goal.invariant-loop-number
invariant-loop-number l = record {
  count : length l.squares.items ≡ l.system.columns;
  each : (j : ℕ) → get_or l.squares.items j 0 ≡ sum_of_squares (take l.number l.system.rows) j;
}

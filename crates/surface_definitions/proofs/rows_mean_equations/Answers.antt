-- The two lemmas are the two directions.
use Rattle.surface_definitions.proofs.EquationLaws.{row_is_zero, zero_row}
use Rattle.surface_definitions.proofs.rows_mean_equations.Goals as goal

pub returns : goal.returns
returns c = λ e xs n l r. (row_is_zero e xs n l r, zero_row e xs n l r)

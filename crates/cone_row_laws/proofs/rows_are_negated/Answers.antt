-- The lemmas are the laws.
use Rattle.cone_row_laws.proofs.Zeros.{order_changed}
use Rattle.cone_row_laws.proofs.Sums.{signs_turned}
use Rattle.cone_row_laws.proofs.rows_are_negated.Goals as goal

pub returns : goal.returns
returns c = record { signs = signs_turned; order = order_changed }

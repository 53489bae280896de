-- The lemmas are the laws.
use Rattle.cone_row_laws.proofs.Fresh.{columns_are_units, units, fresh_next}
use Rattle.cone_row_laws.proofs.fresh_steps.Goals as goal

pub returns : goal.returns
returns c = record { columns = columns_are_units; units = units; next = fresh_next }

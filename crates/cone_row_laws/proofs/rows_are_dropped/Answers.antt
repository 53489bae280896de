-- The lemmas are the laws.
use Rattle.cone_row_laws.proofs.Zeros.{empty_dropped, equal_dropped}
use Rattle.cone_row_laws.proofs.Sums.{turned_dropped}
use Rattle.cone_row_laws.proofs.rows_are_dropped.Goals as goal

pub returns : goal.returns
returns c = record { empty = empty_dropped; equal = equal_dropped; negated = turned_dropped }

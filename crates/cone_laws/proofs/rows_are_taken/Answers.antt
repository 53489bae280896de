-- The lemma is the law.
use Rattle.cone_laws.proofs.Taken.{some_rows_taken}
use Rattle.cone_laws.proofs.rows_are_taken.Goals as goal

pub returns : goal.returns
returns c = some_rows_taken

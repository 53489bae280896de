-- The lemma is the law.
use Rattle.outcome_written_laws.proofs.Tables.{crushed_are_read_lem}
use Rattle.outcome_written_laws.proofs.crushed_are_read.Goals as goal

pub returns : goal.returns
returns c = crushed_are_read_lem

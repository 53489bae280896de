-- The lemma is the law.
use Rattle.outcome_written_laws.proofs.Tables.{descents_are_read_lem}
use Rattle.outcome_written_laws.proofs.descents_are_read.Goals as goal

pub returns : goal.returns
returns c = descents_are_read_lem

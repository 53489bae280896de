-- The lemma is the law.
use Rattle.outcome_written_laws.proofs.Covers.{cover_read}
use Rattle.outcome_written_laws.proofs.covers_are_read.Goals as goal

pub returns : goal.returns
returns c = cover_read

use Rattle.outcome_written_laws.proofs.ReadAgain.{written_sums_read}
use Rattle.outcome_written_laws.proofs.sums_are_read.Goals as goal

pub returns : goal.returns
returns c = written_sums_read

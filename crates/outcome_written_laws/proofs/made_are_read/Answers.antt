use Rattle.outcome_written_laws.proofs.MadeTexts.{made_are_read_lem, made_are_certified_too}
use Rattle.outcome_written_laws.proofs.made_are_read.Goals as goal

pub returns-clause-read : goal.returns-clause-read
returns-clause-read c = made_are_read_lem

pub returns-clause-certified : goal.returns-clause-certified
returns-clause-certified c = made_are_certified_too

use Rattle.outcome_written_laws.proofs.AddedUp.{sums_accepted, whole_sums_accepted}
use Rattle.outcome_written_laws.proofs.ReadAgain.{decomposed_read_again}
use Rattle.outcome_written_laws.proofs.sums_are_accepted.Goals as goal

pub returns-clause-unless_large : goal.returns-clause-unless_large
returns-clause-unless_large c = sums_accepted

pub returns-clause-whole : goal.returns-clause-whole
returns-clause-whole c = whole_sums_accepted

pub returns-clause-decomposed : goal.returns-clause-decomposed
returns-clause-decomposed c = decomposed_read_again

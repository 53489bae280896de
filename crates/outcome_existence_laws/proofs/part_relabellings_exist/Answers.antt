-- The lemmas are the laws.
use Rattle.outcome_existence_laws.proofs.PartRelabellings.{some_same_parts}
use Rattle.outcome_existence_laws.proofs.Answers.{relabelled_or_not}
use Rattle.outcome_existence_laws.proofs.part_relabellings_exist.Goals as goal

pub returns : goal.returns
returns c = record { decided = relabelled_or_not; reported = some_same_parts }

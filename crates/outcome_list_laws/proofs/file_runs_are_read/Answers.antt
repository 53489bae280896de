-- The lemma is the law.
use Rattle.outcome_list_laws.proofs.Runs.{file_runs_lem}
use Rattle.outcome_list_laws.proofs.file_runs_are_read.Goals as goal

pub returns : goal.returns
returns c = file_runs_lem

-- The lemma is the law.
use Rattle.outcome_list_laws.proofs.Orientable.{orientable_lifts_lem}
use Rattle.outcome_list_laws.proofs.lifts_decide_closed_orientable.Goals as goal

pub returns : goal.returns
returns c = orientable_lifts_lem

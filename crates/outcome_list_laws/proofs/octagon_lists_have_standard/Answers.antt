-- The lemma is the law.
use Rattle.outcome_list_laws.proofs.Lists.{octagon_lists_lem}
use Rattle.outcome_list_laws.proofs.octagon_lists_have_standard.Goals as goal

pub returns : goal.returns
returns c = octagon_lists_lem

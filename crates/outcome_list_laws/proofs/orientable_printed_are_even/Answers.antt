-- The lemma is the law.
use Rattle.outcome_list_laws.proofs.EvenComponents.{orientable_printed_lem}
use Rattle.outcome_list_laws.proofs.orientable_printed_are_even.Goals as goal

pub returns : goal.returns
returns c = orientable_printed_lem

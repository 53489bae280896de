-- The lemma is the law.
use Rattle.outcome_list_laws.proofs.EvenComponents.{two_sided_printed_lem}
use Rattle.outcome_list_laws.proofs.two_sided_printed_are_even.Goals as goal

pub returns : goal.returns
returns c = two_sided_printed_lem

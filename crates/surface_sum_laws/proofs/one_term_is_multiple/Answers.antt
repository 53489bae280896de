-- The lemmas are the laws.
use Rattle.surface_sum_laws.proofs.OneTerm.{one_term, two_terms}
use Rattle.surface_sum_laws.proofs.one_term_is_multiple.Goals as goal

pub returns : goal.returns
returns c = record {
  one = λ rows coords equations surfaces x times terms h width sum. one_term _ equations _ surfaces h.is_list x width times terms sum;
  others = λ rows coords equations surfaces x times terms h width some alone sum. two_terms _ equations _ surfaces h.is_list x width times some alone terms sum;
}

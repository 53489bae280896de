-- The lemmas are the laws.
use Rattle.outcome_list_laws.proofs.Lists.{lifted_inputs_lem, lifted_lists_lem}
use Rattle.outcome_list_laws.proofs.lifted_lists_are_listed.Goals as goal

pub returns : goal.returns
returns c = record { inputs = lifted_inputs_lem; written = lifted_lists_lem }

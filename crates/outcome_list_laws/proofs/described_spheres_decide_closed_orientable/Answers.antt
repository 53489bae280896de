-- The lemmas are the laws.
use Rattle.outcome_list_laws.proofs.Orientable.{orientable_inputs_lem, orientable_lists_lem}
use Rattle.outcome_list_laws.proofs.described_spheres_decide_closed_orientable.Goals as goal

pub returns : goal.returns
returns c = record { inputs = orientable_inputs_lem; written = orientable_lists_lem }

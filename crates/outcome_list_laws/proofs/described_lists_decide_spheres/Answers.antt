-- The lemmas are the laws.
use Rattle.outcome_list_laws.proofs.DescribedSpheres.{inputs_decide_spheres_lem, described_spheres_lem}
use Rattle.outcome_list_laws.proofs.described_lists_decide_spheres.Goals as goal

pub returns : goal.returns
returns c = record { inputs = inputs_decide_spheres_lem; written = described_spheres_lem }

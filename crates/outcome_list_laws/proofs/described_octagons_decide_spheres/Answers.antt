-- The lemmas are the laws.
use Rattle.outcome_list_laws.proofs.Described.{octagon_inputs_decide_lem, octagon_files_decide_lem, described_octagons_decide_lem}
use Rattle.outcome_list_laws.proofs.Spheres.{spheres_decide_lem}
use Rattle.outcome_list_laws.proofs.described_octagons_decide_spheres.Goals as goal

pub returns : goal.returns
returns c = record { parts = spheres_decide_lem; inputs = octagon_inputs_decide_lem; files = octagon_files_decide_lem; written = described_octagons_decide_lem }

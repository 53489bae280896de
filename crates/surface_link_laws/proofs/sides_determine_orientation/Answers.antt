-- The lemmas are the laws.
use Rattle.surface_link_laws.proofs.Turned.{sides_tell_orientation_lem, one_answer_to_both}
use Rattle.surface_link_laws.proofs.DescribedSides.{described_alike}
use Rattle.surface_link_laws.proofs.sides_determine_orientation.Goals as goal

pub returns : goal.returns
returns c = record { signs = sides_tell_orientation_lem; reported = one_answer_to_both; described = described_alike }

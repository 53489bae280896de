-- The lemma is the claim.
use Rattle.component_laws.proofs.Worked.{two_free_tets}
use Rattle.component_laws.proofs.worked_parts.Goals as goal

pub returns : goal.returns
returns c = two_free_tets

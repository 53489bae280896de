-- The lemma is the law.
use Rattle.surface_crushing_laws.proofs.Linking.{crushed_to_itself_lem}
use Rattle.surface_crushing_laws.proofs.crushed_to_itself.Goals as goal

pub returns : goal.returns
returns c = crushed_to_itself_lem

-- The lemma is the law.
use Rattle.cone_laws.proofs.Ended.{enumeration_ends}
use Rattle.cone_laws.proofs.enumerations_end.Goals as goal

pub returns : goal.returns
returns c = enumeration_ends

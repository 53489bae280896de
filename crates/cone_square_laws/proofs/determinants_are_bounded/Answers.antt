-- The lemma is the law.
use Rattle.cone_square_laws.proofs.Determinants.{determinants_bounded}
use Rattle.cone_square_laws.proofs.determinants_are_bounded.Goals as goal

pub returns : goal.returns
returns c = determinants_bounded

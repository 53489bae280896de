-- The lemma is the law.
use Rattle.cone_row_laws.proofs.Singles.{no_third}
use Rattle.cone_row_laws.proofs.singles_have_no_third.Goals as goal

pub returns : goal.returns
returns c = no_third

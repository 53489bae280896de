use Rattle.move_laws.proofs.Played.{descents_agree_lem, makings_agree_lem}
use Rattle.move_laws.proofs.descents_and_makings_agree.Goals as goal

pub returns-clause-descents : goal.returns-clause-descents
returns-clause-descents c = descents_agree_lem

pub returns-clause-makings : goal.returns-clause-makings
returns-clause-makings c = makings_agree_lem

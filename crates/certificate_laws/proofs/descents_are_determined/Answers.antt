use Rattle.certificate_laws.proofs.Answered.{standard_or_not_lem, descents_exist_lem}
use Rattle.certificate_laws.proofs.Descents.{one_descent_lem}
use Rattle.certificate_laws.proofs.descents_are_determined.Goals as goal

pub returns-clause-standard : goal.returns-clause-standard
returns-clause-standard c = standard_or_not_lem

pub returns-clause-some : goal.returns-clause-some
returns-clause-some c = descents_exist_lem

pub returns-clause-one : goal.returns-clause-one
returns-clause-one c = one_descent_lem

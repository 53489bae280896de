use Rattle.certificate_laws.proofs.Checked.{answers_agree_lem}
use Rattle.certificate_laws.proofs.Answered.{answers_exist_lem}
use Rattle.certificate_laws.proofs.answers_agree.Goals as goal

pub returns-clause-one : goal.returns-clause-one
returns-clause-one c = answers_agree_lem

pub returns-clause-some : goal.returns-clause-some
returns-clause-some c = answers_exist_lem

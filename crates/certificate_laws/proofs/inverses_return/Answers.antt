use Rattle.certificate_laws.proofs.CarriedWays.{steps_go_back_lem}
use Rattle.certificate_laws.proofs.Made.{ways_lead_back_lem, ways_back_lead_lem, ways_back_agree_lem}
use Rattle.certificate_laws.proofs.inverses_return.Goals as goal

pub returns-clause-steps : goal.returns-clause-steps
returns-clause-steps c = steps_go_back_lem

pub returns-clause-there : goal.returns-clause-there
returns-clause-there c = ways_lead_back_lem

pub returns-clause-leads : goal.returns-clause-leads
returns-clause-leads c = ways_back_lead_lem

pub returns-clause-one : goal.returns-clause-one
returns-clause-one c = ways_back_agree_lem

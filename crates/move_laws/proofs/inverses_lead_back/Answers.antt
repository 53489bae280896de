use Rattle.move_laws.proofs.LedBack.{inverses_lead_back_lem, inverses_have_cores_lem}
use Rattle.move_laws.proofs.MadeTables.{inverses_lead_only_back_lem}
use Rattle.move_laws.proofs.inverses_lead_back.Goals as goal

pub returns-clause-cores : goal.returns-clause-cores
returns-clause-cores c = inverses_have_cores_lem

pub returns-clause-tables : goal.returns-clause-tables
returns-clause-tables c = inverses_lead_back_lem

pub returns-clause-alone : goal.returns-clause-alone
returns-clause-alone c = inverses_lead_only_back_lem

use Rattle.move_laws.proofs.LedOn.{legal_moves_lead_on_lem}
use Rattle.move_laws.proofs.legal_moves_lead_on.Goals as goal

pub returns : goal.returns
returns c = legal_moves_lead_on_lem

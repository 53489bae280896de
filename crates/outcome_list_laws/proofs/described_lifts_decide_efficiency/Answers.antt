-- The lemmas are the laws.
use Rattle.outcome_list_laws.proofs.Quads.{information_decides_lem, lifts_decide_lem}
use Rattle.outcome_list_laws.proofs.described_lifts_decide_efficiency.Goals as goal

pub returns : goal.returns
returns c = record { links = information_decides_lem; lifts = lifts_decide_lem }

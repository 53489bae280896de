-- The lemmas are the laws.
use Rattle.outcome_list_laws.proofs.Parts.{parts_decide_lem, file_parts_decide_lem}
use Rattle.outcome_list_laws.proofs.parts_decide_efficiency.Goals as goal

pub returns : goal.returns
returns c = record { parts = parts_decide_lem; files = file_parts_decide_lem }

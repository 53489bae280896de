-- The lemmas are the laws.
use Rattle.outcome_list_laws.proofs.Orientable.{orientable_parts_lem, orientable_files_lem}
use Rattle.outcome_list_laws.proofs.parts_decide_closed_orientable.Goals as goal

pub returns : goal.returns
returns c = record { parts = orientable_parts_lem; files = orientable_files_lem }

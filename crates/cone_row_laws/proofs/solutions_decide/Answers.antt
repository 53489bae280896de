-- The lemmas are the laws.
use Rattle.cone_row_laws.proofs.RedundantRows.{one_list, further_free}
use Rattle.cone_row_laws.proofs.solutions_decide.Goals as goal

pub returns-clause-one : goal.returns-clause-one
returns-clause-one c = one_list

pub returns-clause-free : goal.returns-clause-free
returns-clause-free c = further_free

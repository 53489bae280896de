use Rattle.std.proofs.Common.{sym}
use Rattle.table_definitions.proofs.Permutations.{words_found}
use Rattle.skeleton.proofs.corners.order.Goals as goal

pub returns-clause-value : goal.returns-clause-value
returns-clause-value c = sym (words_found _ _ c.in-Some.ensures.permutes c.in-Some.ensures.value)

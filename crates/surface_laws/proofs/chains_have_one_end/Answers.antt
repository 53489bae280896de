-- A chain has an end, since no two steps reach the same face, and has one, since each step is determined.
use Rattle.surface_laws.proofs.Chains.{has_one_end}
use Rattle.surface_laws.proofs.chains_have_one_end.Goals as goal

pub returns : goal.returns
returns c = λ rows xs x table k. has_one_end rows xs table x k

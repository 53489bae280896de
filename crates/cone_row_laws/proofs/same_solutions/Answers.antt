-- The lemmas are the laws.
use Rattle.cone_row_laws.proofs.Zeros.{same_from_zeros, same_reflexive, same_symmetric, same_transitive}
use Rattle.cone_row_laws.proofs.same_solutions.Goals as goal

pub returns : goal.returns
returns c = record { zeros = same_from_zeros; reflexive = same_reflexive; symmetric = same_symmetric; transitive = same_transitive }

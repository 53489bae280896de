-- Both are computed.
use Rattle.std.proofs.Common.{refl}
use Rattle.cone_square_laws.specs.Determinants.{determinant, expansion, product_of_squares}
use Rattle.cone_square_laws.proofs.worked_determinant.Goals as goal

pub returns : goal.returns
unfolding determinant expansion product_of_squares
returns c = record { is = refl; most = refl }

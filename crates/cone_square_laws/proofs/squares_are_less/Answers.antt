-- The lemmas are the laws.
use Rattle.cone_square_laws.proofs.Columns.{squares_less}
use Rattle.cone_square_laws.proofs.Weights.{weights_suffice}
use Rattle.cone_square_laws.proofs.squares_are_less.Goals as goal

pub returns : goal.returns
returns c = record { columns = squares_less; suffice = weights_suffice }

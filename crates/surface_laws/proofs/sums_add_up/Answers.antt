-- Each sum is over columns.
use Rattle.surface_laws.proofs.Sums.{add_up}
use Rattle.surface_laws.proofs.sums_add_up.Goals as goal

pub returns : goal.returns
returns c = λ rows coords classes count x y w. add_up coords x y w rows classes count

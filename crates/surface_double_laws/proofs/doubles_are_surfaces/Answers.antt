-- The lemmas are the law.
use Rattle.surface_double_laws.proofs.Doubles.{double_surface, double_characteristic}
use Rattle.surface_double_laws.proofs.doubles_are_surfaces.Goals as goal

pub returns : goal.returns
returns c = λ s coords xs w. (double_surface s.rows coords xs w, double_characteristic s coords xs)

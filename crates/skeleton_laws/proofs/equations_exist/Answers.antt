-- The lemmas are the law.
use Rattle.surface_definitions.proofs.OneSystem.{one_equations}
use Rattle.skeleton_laws.proofs.Equated.{some_equations}
use Rattle.skeleton_laws.proofs.equations_exist.Goals as goal

pub returns : goal.returns
returns c = record { some = some_equations; one = one_equations }

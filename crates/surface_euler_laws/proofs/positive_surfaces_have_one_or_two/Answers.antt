-- The lemmas are the laws.
use Rattle.surface_euler_laws.proofs.AtMostTwo.{positive_one_or_two, twice_are_spheres}
use Rattle.surface_euler_laws.proofs.positive_surfaces_have_one_or_two.Goals as goal

pub returns : goal.returns
returns c = record { positive = positive_one_or_two; octagons = twice_are_spheres }

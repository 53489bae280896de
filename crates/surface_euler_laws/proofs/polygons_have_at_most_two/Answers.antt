-- The lemmas are the laws.
use Rattle.surface_euler_laws.proofs.TwoForests.{at_most_two}
use Rattle.surface_euler_laws.proofs.polygons_have_at_most_two.Goals as goal

pub returns : goal.returns
returns c = at_most_two

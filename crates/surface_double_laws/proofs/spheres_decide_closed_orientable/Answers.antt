-- The lemmas are the laws.
use Rattle.surface_double_laws.proofs.Orientable.{closed_efficiency, closed_spheres, closed_list, closed_listed}
use Rattle.surface_double_laws.proofs.spheres_decide_closed_orientable.Goals as goal

pub returns : goal.returns
returns c = record { spheres = closed_efficiency; links = closed_spheres; listed = closed_list; planes = closed_listed }

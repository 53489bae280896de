-- The lemmas are the laws.
use Rattle.surface_double_laws.proofs.Spheres.{efficiency_by_spheres, spheres_decide, list_decides_spheres, planes_and_spheres_decide}
use Rattle.surface_double_laws.proofs.spheres_decide_efficiency.Goals as goal

pub returns : goal.returns
returns c = record { spheres = efficiency_by_spheres; links = spheres_decide; listed = list_decides_spheres; planes = planes_and_spheres_decide }

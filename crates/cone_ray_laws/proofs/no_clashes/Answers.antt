-- The lemmas are the laws.
use Rattle.cone_ray_laws.proofs.Spanned.{surface_is_ray, ray_is_surface}
use Rattle.cone_ray_laws.proofs.no_clashes.Goals as goal

pub returns : goal.returns
returns c = record { forth = surface_is_ray; back = ray_is_surface }

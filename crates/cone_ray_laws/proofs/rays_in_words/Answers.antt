-- The lemmas are the laws.
use Rattle.cone_ray_laws.proofs.Spanned.{extreme_spans, spanning_is_extreme}
use Rattle.cone_ray_laws.proofs.OnRay.{on_ray_have_one_ray, one_ray_is_on_ray}
use Rattle.cone_ray_laws.proofs.rays_in_words.Goals as goal

pub returns : goal.returns
returns c = record { forth = extreme_spans; back = spanning_is_extreme; one_ray = on_ray_have_one_ray; on_ray = one_ray_is_on_ray }

-- The lemma is the law.
use Rattle.surface_euler_laws.proofs.AlmostNormal.{almost_normal_listed}
use Rattle.surface_euler_laws.proofs.almost_normal_sphere_is_listed.Goals as goal

pub returns : goal.returns
returns c = λ s surfaces k valid list efficient. almost_normal_listed s k valid surfaces list efficient

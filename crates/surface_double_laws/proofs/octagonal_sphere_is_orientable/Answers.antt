-- The lemma is the law.
use Rattle.surface_double_laws.proofs.WorkedSphere.{octagon_is_orientable}
use Rattle.surface_double_laws.proofs.octagonal_sphere_is_orientable.Goals as goal

pub returns : goal.returns
returns c = octagon_is_orientable

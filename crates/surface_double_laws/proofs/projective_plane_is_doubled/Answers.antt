-- The lemmas are the laws.
use Rattle.surface_double_laws.proofs.Worked.{plane_is_one_sided, plane_has_double}
use Rattle.surface_double_laws.proofs.projective_plane_is_doubled.Goals as goal

pub returns : goal.returns
returns c = record { one_sided = plane_is_one_sided; double = plane_has_double }

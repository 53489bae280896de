-- If all octagons are 0, the equations, the clashing columns and the supports are the same.
use Rattle.surface_agreement_laws.proofs.SameSurfaces.{vertices_in_octagons, vertices_without_octagons}
use Rattle.surface_agreement_laws.proofs.surfaces_without_octagons_are_standard.Goals as goal
use Rattle.surface_agreement_laws.proofs.SameCharacteristic.{same_characteristic}
use Rattle.surface_agreement_laws.specs.VertexSurfaces.{in_octagons}
use Rattle.surface_agreement_laws.proofs.InOctagons.{in_octagons_is}
use Rattle.std.specs.Prelude.{length}

pub returns : goal.returns
returns c = record { as_they_are = λ s ys k w. vertices_in_octagons s k ys w; all = λ s xs k. vertices_without_octagons s k xs; characteristic = λ s ys k w. same_characteristic s ys (in_octagons (length s.rows) ys) k (in_octagons_is (length s.rows) ys w) }

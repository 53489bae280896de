-- The test checks each face.
use Rattle.surface_laws.proofs.LinkingLemmas.{boundary}
use Rattle.surface_laws.proofs.boundary_has_arcs.Goals as goal

pub returns : goal.returns
returns c = λ rows coords xs. boundary rows coords xs

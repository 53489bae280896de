-- The lemmas are the laws.
use Rattle.surface_efficiency_laws.proofs.Connected.{vertex_surface_connected}
use Rattle.surface_efficiency_laws.proofs.vertex_surfaces_are_connected.Goals as goal

pub returns : goal.returns
returns c = vertex_surface_connected

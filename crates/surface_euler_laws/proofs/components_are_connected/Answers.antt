-- The lemmas are the laws.
use Rattle.surface_euler_laws.proofs.ComponentsConnected.{component_connected}
use Rattle.surface_euler_laws.proofs.components_are_connected.Goals as goal

pub returns : goal.returns
returns c = λ s coords xs components count i w h l. component_connected s coords xs components count h w i l

-- Searches from piece to piece number the components.
use Rattle.surface_laws.proofs.ComponentsFound.{components_found}
use Rattle.surface_laws.proofs.components_exist.Goals as goal

pub returns : goal.returns
returns c = components_found

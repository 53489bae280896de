-- The lemmas are the laws.
use Rattle.component_laws.proofs.Signatures.{component_signatures_tell, one_component_signature}
use Rattle.component_laws.proofs.Alone.{connected_has_signature}
use Rattle.component_laws.proofs.component_signatures_determine_tables.Goals as goal

pub returns : goal.returns
returns c = record { determine = component_signatures_tell; one = one_component_signature; connected = connected_has_signature }

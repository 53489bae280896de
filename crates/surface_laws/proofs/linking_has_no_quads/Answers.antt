-- The test checks each column.
use Rattle.surface_laws.proofs.LinkingLemmas.{linking}
use Rattle.surface_laws.proofs.linking_has_no_quads.Goals as goal

pub returns : goal.returns
returns c = λ coords xs. linking coords xs

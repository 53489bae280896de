-- The lemma is the law.
use Rattle.surface_definitions.proofs.ClashPairs.{clashes_apart}
use Rattle.surface_definitions.proofs.clashing_columns_differ.Goals as goal

pub returns : goal.returns
returns c = clashes_apart

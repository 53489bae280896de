-- The lemma is the law.
use Rattle.surface_double_laws.proofs.OrientedMaps.{oriented_even}
use Rattle.surface_double_laws.proofs.oriented_maps_are_even.Goals as goal

pub returns : goal.returns
returns c = oriented_even

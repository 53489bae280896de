-- The lemmas are the laws.
use Rattle.move_link_laws.proofs.ClosedEuler.{closed_characteristics}
use Rattle.move_link_laws.proofs.ClosedManifolds.{closed_manifolds}
use Rattle.move_link_laws.proofs.closed_characteristics.Goals as goal

pub returns : goal.returns
returns c = record { links = closed_characteristics; zero = closed_manifolds }

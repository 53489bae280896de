-- The lemmas are the laws.
use Rattle.surface_double_laws.proofs.DoublePieces.{double_connected}
use Rattle.surface_double_laws.proofs.TwoCopies.{two_copies}
use Rattle.surface_double_laws.proofs.doubles_are_connected_or_two_copies.Goals as goal

pub returns : goal.returns
returns c = record { connected = double_connected; copies = two_copies }

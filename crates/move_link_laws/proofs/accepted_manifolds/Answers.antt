-- The lemmas are the laws.
use Rattle.move_link_laws.proofs.Manifolds.{certified_numbers, accepted_numbers}
use Rattle.move_link_laws.proofs.accepted_manifolds.Goals as goal

pub returns : goal.returns
returns c = record { certified = certified_numbers; accepted = accepted_numbers }

-- The lemmas are the laws.
use Rattle.cover_relabelling_laws.proofs.Composed.{identity_is_lifted_lem, compositions_are_lifted_lem}
use Rattle.cover_relabelling_laws.proofs.lifts_compose.Goals as goal

pub returns : goal.returns
returns c = record { identity = identity_is_lifted_lem; compositions = compositions_are_lifted_lem }

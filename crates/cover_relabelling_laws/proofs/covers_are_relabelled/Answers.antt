-- The lemmas are the laws.
use Rattle.cover_relabelling_laws.proofs.Lifted.{lift_carries_lem, lift_lies_over_lem, lift_commutes_lem, covers_are_isomorphic_lem}
use Rattle.cover_relabelling_laws.proofs.covers_are_relabelled.Goals as goal

pub returns : goal.returns
returns c = record { carries = lift_carries_lem; over = lift_lies_over_lem; commutes = lift_commutes_lem; isomorphic = covers_are_isomorphic_lem }

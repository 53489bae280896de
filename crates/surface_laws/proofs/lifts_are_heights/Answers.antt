-- The triangles of a lift are heights, and heights above the least of them are a lift.
use Rattle.surface_laws.proofs.Heights.{heights_give, lift_gives}
use Rattle.surface_laws.proofs.lifts_are_heights.Goals as goal

pub returns : goal.returns
returns c = λ s xs class k w l. ((λ f. lift_gives s k xs w class f), (λ f. heights_give s k xs w class l f.0 f.1))

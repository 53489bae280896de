-- The lemmas are the laws.
use Rattle.component_laws.proofs.SameParts.{same_parts_carry}
use Rattle.component_laws.proofs.OneOrder.{one_same_parts}
use Rattle.component_laws.proofs.part_relabellings_are_unique.Goals as goal

pub returns : goal.returns
returns c = record { carry = λ first second by tf ts h. same_parts_carry first second by tf ts h; one = λ first second by other tf ts a b. one_same_parts first second by other tf ts a b }

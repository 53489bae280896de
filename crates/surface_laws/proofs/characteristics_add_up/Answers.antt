-- The three sums add up, and so does their difference.
use Rattle.surface_laws.proofs.Sums.{eulers_add}
use Rattle.surface_laws.proofs.characteristics_add_up.Goals as goal

pub returns : goal.returns
returns c = λ s coords x y p q r w f g h. eulers_add s coords x y p q r w f g h

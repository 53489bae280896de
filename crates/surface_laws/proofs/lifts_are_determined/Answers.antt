-- Two lifts differ by a constant on each class, and each is 0 somewhere in it.
use Rattle.surface_laws.proofs.Lifts.{one_lift}
use Rattle.surface_laws.proofs.lifts_are_determined.Goals as goal

pub returns : goal.returns
returns c = λ s xs ys zs k f g. one_lift s.rows k.table s.vertices.classes s.vertices.count k.vertices xs ys zs f g

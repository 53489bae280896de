use Rattle.signature_automorphism_laws.proofs.Marks.{no_walk}
use Rattle.signature_automorphism_laws.proofs.marked_starts_need_no_walk.Goals as goal

pub returns : goal.returns
returns c = λ rows text marks k h e least. no_walk rows text k (h k e) least

-- There are equally many arcs on both sides of a gluing.
use Rattle.surface_laws.proofs.MeetingArcs.{meets_back}
use Rattle.surface_laws.proofs.arcs_meet_back.Goals as goal

pub returns : goal.returns
returns c = λ rows coords xs a g s m. meets_back rows coords xs s a g m

-- A path of neighbours is a chain of arcs, and a chain of arcs is such a path.
use Rattle.surface_laws.proofs.MeetingPieces.{join_components}
use Rattle.surface_laws.proofs.meeting_pieces_join.Goals as goal

pub returns : goal.returns
returns c = λ rows coords xs neighbours s lists. join_components rows coords xs neighbours s lists

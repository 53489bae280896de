-- The components exist, and their signs exist or do not.
use Rattle.surface_laws.proofs.PiecesAnswered.{pieces_answer}
use Rattle.surface_laws.proofs.pieces_answers_exist.Goals as goal

pub returns : goal.returns
returns c = pieces_answer

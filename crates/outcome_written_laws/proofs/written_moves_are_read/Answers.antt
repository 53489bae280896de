use Rattle.outcome_written_laws.proofs.WrittenMoves.{written_moves_read}
use Rattle.outcome_written_laws.proofs.written_moves_are_read.Goals as goal

pub returns : goal.returns
returns c = written_moves_read

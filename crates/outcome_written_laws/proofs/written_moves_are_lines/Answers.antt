use Rattle.outcome_written_laws.proofs.WrittenMoves.{written_moves_are_lines_lem}
use Rattle.outcome_written_laws.proofs.written_moves_are_lines.Goals as goal

pub returns : goal.returns
returns c = written_moves_are_lines_lem

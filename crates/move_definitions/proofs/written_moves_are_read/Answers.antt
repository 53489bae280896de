use Rattle.move_definitions.proofs.WrittenLaws.{written_read}
use Rattle.move_definitions.proofs.written_moves_are_read.Goals as goal

pub returns : goal.returns
returns c = written_read

-- The words are read.
use Rattle.command_laws.proofs.Worked.{worked}
use Rattle.command_laws.proofs.worked_words.Goals as goal

pub returns : goal.returns
returns c = worked

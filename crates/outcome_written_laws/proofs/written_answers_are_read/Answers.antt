use Rattle.outcome_written_laws.proofs.WrittenDocuments.{written_answer_read}
use Rattle.outcome_written_laws.proofs.written_answers_are_read.Goals as goal

pub returns : goal.returns
returns c = written_answer_read

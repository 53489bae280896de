use Rattle.outcome_written_laws.proofs.WrittenVectors.{written_vectors}
use Rattle.outcome_written_laws.proofs.written_vectors_are_read.Goals as goal

pub returns : goal.returns
returns c = written_vectors

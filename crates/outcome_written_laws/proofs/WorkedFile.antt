-- A worked file with a signature, a comment and other spacing, computed.
use Rattle.std.proofs.Common.{refl}
use Rattle.text_document_definitions.proofs.Computed.{computed}
use Rattle.outcome_written_laws.specs.Joined.{WorkedFileIsRead}

pub worked_file_lem : WorkedFileIsRead
unfolding computed
worked_file_lem = (refl, refl)

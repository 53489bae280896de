-- The lemmas are the laws.
use Rattle.outcome_written_laws.proofs.Joined.{joined_are_read_lem, joined_parts_are_read_lem}
use Rattle.outcome_written_laws.proofs.WorkedFile.{worked_file_lem}
use Rattle.outcome_written_laws.proofs.joined_files_are_read.Goals as goal

pub returns : goal.returns
returns c = record { whole = joined_are_read_lem; part = joined_parts_are_read_lem; worked = worked_file_lem }

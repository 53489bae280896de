-- The lemmas are the laws.
use Rattle.outcome_written_laws.proofs.Entries.{listed_within}
use Rattle.outcome_written_laws.proofs.Surfaces.{surfaces_are_read_lem}
use Rattle.outcome_written_laws.proofs.surfaces_are_read.Goals as goal

pub returns : goal.returns
returns c = record { within = listed_within; read = surfaces_are_read_lem }

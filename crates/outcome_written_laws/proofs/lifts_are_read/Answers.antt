-- The lemmas are the laws.
use Rattle.outcome_written_laws.proofs.LiftEntries.{lifts_within}
use Rattle.outcome_written_laws.proofs.Lifts.{lifts_are_read_lem, lifts_are_verified_lem}
use Rattle.outcome_written_laws.proofs.lifts_are_read.Goals as goal

pub returns : goal.returns
returns c = record { within = lifts_within; read = lifts_are_read_lem; verified = lifts_are_verified_lem }

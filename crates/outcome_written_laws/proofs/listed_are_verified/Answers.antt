-- The lemmas are the laws.
use Rattle.outcome_written_laws.proofs.Verdicts.{surfaces_are_solutions}
use Rattle.outcome_written_laws.proofs.Surfaces.{listed_are_verified_lem}
use Rattle.outcome_written_laws.proofs.listed_are_verified.Goals as goal

pub returns : goal.returns
returns c = record { verdict = surfaces_are_solutions; answer = listed_are_verified_lem }

-- A vector is accepted or not, and the crushed table is unique.
use Rattle.surface_laws.proofs.AnswerLemmas.{crushed_along_once}
use Rattle.surface_laws.proofs.crushing_is_determined.Goals as goal

pub returns : goal.returns
returns c = crushed_along_once

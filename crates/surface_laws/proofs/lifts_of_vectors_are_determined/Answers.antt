-- The answer for each vector is unique, and so is the first vector that is refused.
use Rattle.surface_laws.proofs.AnswerLemmas.{lifted_each}
use Rattle.surface_laws.proofs.lifts_of_vectors_are_determined.Goals as goal

pub returns : goal.returns
returns c = lifted_each

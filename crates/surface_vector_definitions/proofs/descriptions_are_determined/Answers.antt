-- The answer for each vector is unique, and so is the first vector that is refused.
use Rattle.surface_vector_definitions.proofs.AnswerLemmas.{one_description_each}
use Rattle.surface_vector_definitions.proofs.descriptions_are_determined.Goals as goal

pub returns : goal.returns
returns c = one_description_each

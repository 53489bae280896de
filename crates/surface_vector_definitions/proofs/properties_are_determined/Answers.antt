-- Each property is an equation.
use Rattle.surface_vector_definitions.proofs.AnswerLemmas.{one_property_answer}
use Rattle.surface_vector_definitions.proofs.properties_are_determined.Goals as goal

pub returns : goal.returns
returns c = one_property_answer

-- The laws were computed over the 24 words.
use Rattle.table_definitions.proofs.Permutations.{inverse_permutes, compose_permutes, compose-inverse, inverse-compose}
use Rattle.table_definitions.proofs.PermutationLaws.{image_below, preimage-image, image-preimage}
use Rattle.table_definitions.proofs.permutations_are_a_group.Goals as goal

pub returns-clause-inverses : goal.returns-clause-inverses
returns-clause-inverses c = inverse_permutes

pub returns-clause-composites : goal.returns-clause-composites
returns-clause-composites c = compose_permutes

pub returns-clause-lead_back : goal.returns-clause-lead_back
returns-clause-lead_back c = λ p h. (compose-inverse p h, inverse-compose p h)

pub returns-clause-images : goal.returns-clause-images
returns-clause-images c = λ p v h l. (image_below p v h l, preimage-image p v h l, image-preimage p v h l)

use Rattle.table_definitions.proofs.Permutations.{identity_permutes, compose_permutes, inverse_permutes, compose-compose, compose-identity, identity-compose, compose-inverse, inverse-compose, image-compose, preimage-image, image-preimage, image-inverse, is_odd-compose}
use Rattle.table_permutation_laws.proofs.permutations_compose.Goals as goal

pub returns : goal.returns
returns c = record {
  closed = (identity_permutes, (λ p q h k. compose_permutes p q h k), (λ p h. inverse_permutes p h));
  associative = λ p q r h k l. compose-compose p q r h k l;
  identity = λ p h. (compose-identity p h, identity-compose p h);
  inverses = λ p h. (compose-inverse p h, inverse-compose p h);
  images = λ p q v h l. image-compose p q h v l;
  undoes = λ p v h l. (preimage-image p h v l, image-preimage p h v l, image-inverse p v l);
  parities = λ p q h k. is_odd-compose p q h k;
}

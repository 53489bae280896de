use Rattle.signature_automorphism_laws.proofs.Group.{associates, neutral_before, neutral_after, cancels_before, cancels_after, identity_carries, composition_carries}
use Rattle.signature_automorphism_laws.proofs.Unique.{identity_is_automorphism, composition_is_automorphism, inverse_is_automorphism}
use Rattle.signature_automorphism_laws.proofs.automorphisms_are_a_group.Goals as goal

pub returns : goal.returns
returns c = record {
  identity = λ rows table. identity_is_automorphism rows table;
  compositions = λ rows second first table a b. composition_is_automorphism rows table second first a b;
  inverses = λ rows by table a. inverse_is_automorphism rows table by a;
  associative = λ n third second first h k m. associates n third second first h k m;
  neutral = λ n by h. (neutral_before n by h, neutral_after n by h);
  cancels = λ n by h. (cancels_before n by h, cancels_after n by h);
  fixes = λ n start l h. identity_carries n start l h;
  acts = λ n second first start h k l hp. composition_carries n second first start h k l hp;
}

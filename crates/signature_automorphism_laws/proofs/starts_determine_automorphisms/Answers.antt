use Rattle.signature_automorphism_laws.proofs.Ties.{tie}
use Rattle.signature_automorphism_laws.proofs.Unique.{text_of_both, one_automorphism}
use Rattle.signature_automorphism_laws.proofs.starts_determine_automorphisms.Goals as goal

pub returns : goal.returns
returns c = record {
  texts = λ rows start other table connected l h m. (λ t. tie rows start other t.0 table l m t.1 t.2, λ b. text_of_both rows table connected start l h b.0 b.1 other b.2);
  one = λ rows start by other table connected l h a b e. one_automorphism rows table connected start l h by other a b e;
}

use Rattle.signature_automorphism_laws.proofs.Ties.{tie}
use Rattle.signature_automorphism_laws.proofs.equal_texts_give_automorphisms.Goals as goal

pub returns : goal.returns
returns c = λ rows start other text table l m a b. tie rows start other text table l m a b

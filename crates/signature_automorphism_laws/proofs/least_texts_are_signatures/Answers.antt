use Rattle.signature_laws.proofs.Least.{least_is_signature}
use Rattle.signature_automorphism_laws.proofs.least_texts_are_signatures.Goals as goal

pub returns : goal.returns
returns c = λ rows text h. least_is_signature rows text h

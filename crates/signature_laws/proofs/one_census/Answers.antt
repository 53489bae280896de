-- A table has one signature.
use Rattle.signature_laws.proofs.Uniqueness.{one_signature}
use Rattle.signature_definitions.proofs.OneCensus.{one_census}
use Rattle.signature_laws.proofs.one_census.Goals as goal

pub returns : goal.returns
returns c = λ tables classes others signatures texts a b. one_census one_signature tables classes others signatures texts a b

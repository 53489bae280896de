use Rattle.signature_laws.proofs.Uniqueness.{one_signature, tells_tables}
use Rattle.signature_laws.proofs.signatures_determine_tables.Goals as goal

pub returns-clause-one : goal.returns-clause-one
returns-clause-one c = λ rows text other s t. one_signature rows text other s t

pub returns-clause-determine : goal.returns-clause-determine
returns-clause-determine c = λ first second text other a b s t. tells_tables first second text other a b s t

-- The lemmas are the laws.
use Rattle.outcome_answer_laws.proofs.Signatures.{signatures_tell, component_signatures_tell_lem}
use Rattle.outcome_answer_laws.proofs.signatures_determine_tables.Goals as goal

pub returns : goal.returns
returns c = record { sig = signatures_tell; csig = component_signatures_tell_lem }

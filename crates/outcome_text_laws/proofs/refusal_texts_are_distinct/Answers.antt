use Rattle.outcome_text_laws.proofs.Reasons.{refusals_told, invalid_edges_told}
use Rattle.outcome_text_laws.proofs.refusal_texts_are_distinct.Goals as goal

pub returns-clause-vectors : goal.returns-clause-vectors
returns-clause-vectors c = refusals_told

pub returns-clause-edges : goal.returns-clause-edges
returns-clause-edges c = invalid_edges_told

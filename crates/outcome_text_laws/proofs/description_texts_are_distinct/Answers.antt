use Rattle.outcome_text_laws.proofs.Described.{descriptions_told}
use Rattle.outcome_text_laws.proofs.Refusals.{done_has_descriptions, statuses_told}
use Rattle.outcome_text_laws.proofs.description_texts_are_distinct.Goals as goal

pub returns-clause-done : goal.returns-clause-done
returns-clause-done c = done_has_descriptions

pub returns-clause-same : goal.returns-clause-same
returns-clause-same c = descriptions_told

pub returns-clause-status : goal.returns-clause-status
returns-clause-status c = statuses_told

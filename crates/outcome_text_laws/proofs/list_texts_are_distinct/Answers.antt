use Rattle.outcome_text_laws.proofs.Listings.{lists_told}
use Rattle.outcome_text_laws.proofs.ListStatuses.{list_statuses_told}
use Rattle.outcome_text_laws.proofs.list_texts_are_distinct.Goals as goal

pub returns-clause-lists : goal.returns-clause-lists
returns-clause-lists c = lists_told

pub returns-clause-status : goal.returns-clause-status
returns-clause-status c = list_statuses_told

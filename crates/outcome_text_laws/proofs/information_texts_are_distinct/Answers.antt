use Rattle.outcome_text_laws.proofs.Informed.{information_told}
use Rattle.outcome_text_laws.proofs.information_texts_are_distinct.Goals as goal

pub returns : goal.returns
returns c = information_told

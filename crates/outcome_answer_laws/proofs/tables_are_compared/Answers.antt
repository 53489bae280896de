-- The lemmas are the laws.
use Rattle.outcome_answer_laws.proofs.Comparisons.{connected_compared, tables_grouped}
use Rattle.outcome_answer_laws.proofs.Components.{components_compared}
use Rattle.outcome_answer_laws.proofs.tables_are_compared.Goals as goal

pub returns : goal.returns
returns c = record { same = connected_compared; csame = components_compared; group = tables_grouped }

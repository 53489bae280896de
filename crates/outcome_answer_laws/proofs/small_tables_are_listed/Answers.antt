-- The lemmas are the laws.
use Rattle.outcome_answer_laws.proofs.Surfaces.{bounded_tables_listed, few_tables_listed}
use Rattle.outcome_answer_laws.proofs.small_tables_are_listed.Goals as goal

pub returns : goal.returns
returns c = record { bounded = bounded_tables_listed; limited = few_tables_listed }

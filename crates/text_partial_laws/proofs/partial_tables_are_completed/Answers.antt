use Rattle.text_partial_laws.proofs.Completed.{partial_tables_are_completed}
use Rattle.text_partial_laws.proofs.partial_tables_are_completed.Goals as goal

pub returns : goal.returns
returns c = partial_tables_are_completed

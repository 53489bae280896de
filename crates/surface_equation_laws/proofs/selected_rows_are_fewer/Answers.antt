-- The lemma is the law.
use Rattle.surface_equation_laws.proofs.Selected.{selected_rows}
use Rattle.surface_equation_laws.proofs.selected_rows_are_fewer.Goals as goal

pub returns : goal.returns
returns c = selected_rows

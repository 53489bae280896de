-- The lemma is the law.
use Rattle.surface_equation_laws.proofs.Columns.{columns_are_few}
use Rattle.surface_equation_laws.proofs.matching_columns_are_small.Goals as goal

pub returns : goal.returns
returns c = columns_are_few

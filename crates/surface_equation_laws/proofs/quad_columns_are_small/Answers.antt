-- The lemma is the law.
use Rattle.surface_equation_laws.proofs.QuadColumns.{quad_columns_are_few}
use Rattle.surface_equation_laws.proofs.quad_columns_are_small.Goals as goal

pub returns : goal.returns
returns c = quad_columns_are_few

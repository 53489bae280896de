-- The lemmas are the laws.
use Rattle.surface_equation_laws.proofs.QuadRows.{quad_rows_are_few, walks_are_most}
use Rattle.surface_equation_laws.proofs.quad_rows_are_small.Goals as goal

pub returns : goal.returns
returns c = record { edges = λ rows quad_rows row cs table q h once. quad_rows_are_few rows quad_rows table q row cs h once; walks = walks_are_most }

-- The lemmas are the laws.
use Rattle.surface_equation_laws.proofs.EquationSums.{equation_triangles, equation_rows, equation_columns}
use Rattle.surface_equation_laws.proofs.Terms.{equation_terms}
use Rattle.surface_equation_laws.proofs.equations_are_small.Goals as goal

pub returns : goal.returns
returns c = record { triangles = equation_triangles; rows = equation_rows; terms = equation_terms; columns = equation_columns }

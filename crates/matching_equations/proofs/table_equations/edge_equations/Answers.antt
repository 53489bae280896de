-- The skeleton's table is the one that was given.
use Rattle.std.proofs.Common.{◌≡◌, List, length, subst}
use Rattle.std.specs.Prelude.{IfOk}
use Rattle.table_definitions.specs.Table.{Row}
use Rattle.surface_definitions.specs.declared.Coords.TheVariants.{Quad}
use Rattle.surface_definitions.specs.Coordinates as coordinates
use Rattle.surface_definitions.specs.QuadEquations.{AreEquations}
use Rattle.matching_equations.proofs.table_equations.edge_equations.Goals as goal

pub returns-clause-columns : goal.returns-clause-columns
returns-clause-columns c =
    subst (λ (rows : List Row). IfOk c.quad_equations.result (λ s. s.columns ≡ coordinates.columns Quad (length rows))) c.in_ok-skeleton.ensures.rows c.quad_equations.ensures.columns

pub returns-clause-equations : goal.returns-clause-equations
returns-clause-equations c =
    subst (λ (rows : List Row). IfOk c.quad_equations.result (λ s. AreEquations Quad rows s.rows)) c.in_ok-skeleton.ensures.rows c.quad_equations.ensures.equations

-- Entries, column sums and products, computed.
use Rattle.surface_definitions.proofs.Computed.{computed}
use Rattle.std.proofs.Common.{◌≡◌, List, [], ◌∷◌, map, refl}
use Rattle.table_definitions.specs.Lists.{below}
use Rattle.table_definitions.proofs.Tables.{sphere, figure_eight}
use Rattle.table_definitions.specs.Classes.{least}
use Rattle.cone_definitions.specs.Rows.{Row as EquationRow}
use Rattle.skeleton_definitions.specs.Corners.{first_corner}
use Rattle.skeleton_definitions.proofs.Evaluators.{edge_classes, walk_from}
use Rattle.surface_definitions.specs.Coordinates.{columns}
use Rattle.surface_definitions.specs.declared.Coords.TheVariants.{Standard, Quad, Octagon}
use Rattle.surface_definitions.specs.Equations.{row_of, matching_rows}
use Rattle.surface_definitions.specs.QuadEquations.{quad_equation}
use Rattle.surface_equation_laws.specs.Entries.{entry, column_sum}
use Rattle.surface_equation_laws.specs.Weights.{weight_product}

-- the magnitudes in a column add up to at most 3 for a triangle, 4 for a quad and 8 for an octagon, and some columns
-- reach these numbers
sphere_columns : map (column_sum (matching_rows Standard sphere)) (below 7) ≡ 3 ∷ 3 ∷ 1 ∷ 1 ∷ 2 ∷ 2 ∷ 4 ∷ []
unfolding computed entry
sphere_columns = refl

sphere_octagons : map (column_sum (matching_rows Octagon sphere)) (below 10) ≡ 3 ∷ 3 ∷ 1 ∷ 1 ∷ 2 ∷ 2 ∷ 4 ∷ 2 ∷ 2 ∷ 4 ∷ []
unfolding computed entry
sphere_octagons = refl

figure_eight_columns : map (column_sum (matching_rows Standard figure_eight)) (below 14) ≡ 3 ∷ 3 ∷ 3 ∷ 3 ∷ 4 ∷ 4 ∷ 4 ∷ 3 ∷ 3 ∷ 3 ∷ 3 ∷ 4 ∷ 4 ∷ 4 ∷ []
unfolding computed entry
figure_eight_columns = refl

figure_eight_octagons : map (column_sum (matching_rows Octagon figure_eight)) (7 ∷ 8 ∷ 9 ∷ []) ≡ 8 ∷ 8 ∷ 8 ∷ []
unfolding computed entry
figure_eight_octagons = refl

quad_rows : List EquationRow
quad_rows = map (λ c. row_of (columns Quad 2) (quad_equation (walk_from figure_eight (first_corner (least (edge_classes figure_eight) c))))) (0 ∷ 1 ∷ [])

figure_eight_quads : map (column_sum quad_rows) (below 6) ≡ 2 ∷ 4 ∷ 2 ∷ 2 ∷ 2 ∷ 4 ∷ []
unfolding computed entry quad_rows
figure_eight_quads = refl

-- an octagon and a quad in another tetrahedron
product : weight_product Octagon (7 ∷ 0 ∷ 14 ∷ []) ≡ 32
unfolding weight_product
product = refl

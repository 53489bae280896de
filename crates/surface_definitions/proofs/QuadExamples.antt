-- Equations in quad coordinates, computed.
use Rattle.surface_definitions.proofs.Computed.{computed}
use Rattle.std.proofs.Common.{◌≡◌, pos, negsuc, [], ◌∷◌, map, refl}
use Rattle.surface_definitions.specs.Coordinates.{columns}
use Rattle.surface_definitions.specs.declared.Coords.TheVariants.{Quad}
use Rattle.surface_definitions.specs.Equations.{row_of}
use Rattle.table_definitions.specs.Classes.{least}
use Rattle.skeleton_definitions.specs.Corners.{first_corner}
use Rattle.surface_definitions.specs.QuadEquations.{quad_equation}
use Rattle.skeleton_definitions.proofs.Evaluators.{edge_classes, walk_from}
use Rattle.table_definitions.proofs.Tables.{sphere, figure_eight}

-- the rows of both edge classes of the sphere
sphere_quad_rows : (row_of (columns Quad 1) (quad_equation (walk_from sphere (first_corner 0))) ≡ (1, negsuc 0) ∷ (2, pos 1) ∷ [])
    × (row_of (columns Quad 1) (quad_equation (walk_from sphere (first_corner (least (edge_classes sphere) 1)))) ≡ (1, pos 1) ∷ (2, negsuc 0) ∷ [])
unfolding computed
sphere_quad_rows = (refl, refl)

figure_eight_rows : map (λ c. row_of (columns Quad 2) (quad_equation (walk_from figure_eight (first_corner (least (edge_classes figure_eight) c))))) (0 ∷ 1 ∷ [])
    ≡ ((0, negsuc 0) ∷ (1, pos 2) ∷ (2, negsuc 0) ∷ (3, negsuc 0) ∷ (4, negsuc 0) ∷ (5, pos 2) ∷ [])
    ∷ ((0, pos 1) ∷ (1, negsuc 1) ∷ (2, pos 1) ∷ (3, pos 1) ∷ (4, pos 1) ∷ (5, negsuc 1) ∷ []) ∷ []
unfolding computed
figure_eight_rows = refl

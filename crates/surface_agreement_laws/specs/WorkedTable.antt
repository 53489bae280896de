-- A standard vertex surface whose quads are no quad vertex surface: two tetrahedra, glued along a face, and a quad of
-- each which meet in it.
use Rattle.std.specs.Prelude.{◌≡◌, ℕ, List, [], ◌∷◌, Some, None}
use Rattle.cone_definitions.specs.Rows.{Row as EquationRow}
use Rattle.cone_definitions.specs.Surfaces.{IsVertexSurface}
use Rattle.table_definitions.specs.Permutation.{four}
use Rattle.table_definitions.specs.Table.{Row}
use Rattle.skeleton_definitions.specs.Skeleton.{Skeleton, IsSkeleton}
use Rattle.surface_definitions.specs.Coordinates.{columns, clash_list}
use Rattle.surface_definitions.specs.declared.Coords.TheVariants.{Standard, Quad}
use Rattle.surface_definitions.specs.Equations.{matching_rows}
use Rattle.surface_definitions.specs.QuadEquations.{AreEquations}
use Rattle.surface_definitions.specs.Lift.{projected}
use Rattle.surface_quad_laws.specs.LinkLaws.{IsCanonical}

abbrev pub two_tetrahedra : List Row
two_tetrahedra =
    (None ∷ None ∷ None ∷ Some (record { tet = 1; perm = four }) ∷ [])
    ∷ (None ∷ None ∷ None ∷ Some (record { tet = 0; perm = four }) ∷ []) ∷ []

abbrev pub two_quads : List ℕ
two_quads = 0 ∷ 0 ∷ 0 ∷ 0 ∷ 1 ∷ 0 ∷ 0 ∷ 0 ∷ 0 ∷ 0 ∷ 0 ∷ 1 ∷ 0 ∷ 0 ∷ []

-- a standard vertex surface
abbrev pub TwoQuadsAreVertexSurface : Type 0
TwoQuadsAreVertexSurface = IsVertexSurface (columns Standard 2) (matching_rows Standard two_tetrahedra) (clash_list Standard 2) two_quads

-- canonical, and so the lift of its quads
abbrev pub TwoQuadsAreCanonical : Type 0
TwoQuadsAreCanonical = (s : Skeleton) → IsSkeleton s → s.rows ≡ two_tetrahedra → IsCanonical s Standard two_quads

-- but no quad vertex surface by them: each of the two quads alone is the quads of a solution
abbrev pub TheirQuadsAreNone : Type 0
TheirQuadsAreNone =
    (quad_rows : List EquationRow) → AreEquations Quad two_tetrahedra quad_rows → ¬ IsVertexSurface (columns Quad 2) quad_rows (clash_list Quad 2) (projected 2 two_quads)

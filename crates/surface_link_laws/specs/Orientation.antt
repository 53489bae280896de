-- Sides and orientations of the components of a surface in an orientable table.
use Rattle.std.specs.Prelude.{◌≡◌, ◌≢◌, ◌↔◌, ℕ, List, Ok, All}
use Rattle.cone_definitions.specs.Rows.{Row as EquationRow}
use Rattle.table_definitions.specs.Table.{Row}
use Rattle.skeleton_definitions.specs.Orientation.{IsOrientable}
use Rattle.skeleton_definitions.specs.Skeleton.{Skeleton, IsSkeleton}
use Rattle.surface_definitions.specs.Pieces.{IsTwoSided, IsOrientableComponent}
use Rattle.surface_definitions.specs.QuadEquations.{AreEquations}
use Rattle.surface_definitions.specs.declared.Coords.{Coords}
use Rattle.surface_definitions.specs.declared.Coords.TheVariants.{Quad}
use Rattle.surface_vector_definitions.specs.Answers.{Description, IsDescription}
use Rattle.surface_vector_definitions.specs.Components.{Component, IsComponent}
use Rattle.surface_laws.specs.PieceLaws.{IsSurface}

-- there a component of a surface is two-sided if and only if it is orientable
abbrev pub SidesDetermineOrientation : Type 0
SidesDetermineOrientation =
    (rows : List Row) (coords : Coords) (xs components : List ℕ) (component : ℕ) → IsSurface rows coords xs → IsOrientable rows
    → IsTwoSided rows coords xs components component ↔ IsOrientableComponent rows coords xs components component

-- Theorem: so the answer for a component is the same for both
abbrev pub OneAnswerToBoth : Type 0
OneAnswerToBoth =
    (rows : List Row) (coords : Coords) (xs classes : List ℕ) (i : ℕ) (c : Component) → IsSurface rows coords xs → IsOrientable rows
    → IsComponent rows coords xs classes i c → c.two_sided ≡ c.orientable

-- and of each component that a description lists
abbrev pub DescribedAlike : Type 0
DescribedAlike =
    (s : Skeleton) (coords : Coords) (equations : List EquationRow) (xs : List ℕ) (d : Description) → coords ≢ Quad → IsSkeleton s → IsOrientable s.rows → AreEquations coords s.rows equations
    → IsDescription s coords equations xs (Ok d) → All (λ (c : Component). c.two_sided ≡ c.orientable) d.components

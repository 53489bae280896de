-- What there is of the skeleton of a table, and that it is unique.
use Rattle.std.specs.Prelude.{◌≡◌, ℕ, ◌*◌, ◌<◌, ◌⊎◌, Bool, List, length, Option}
use Rattle.cone_definitions.specs.Rows.{Row as EquationRow}
use Rattle.table_definitions.specs.Table.{Row, IsTable}
use Rattle.table_definitions.specs.Places.{IsInvalidEdge}
use Rattle.skeleton_definitions.specs.declared.Link.{Link}
use Rattle.skeleton_definitions.specs.Skeleton.{Skeleton, IsSkeleton, IsFirstInvalid, IsOrientation, AreLinks}
use Rattle.surface_definitions.specs.declared.Coords.{Coords}
use Rattle.surface_definitions.specs.QuadEquations.{AreEquations}

-- each table has a skeleton
abbrev pub SomeSkeleton : Type 0
SomeSkeleton = (rows : List Row) → IsTable rows → (s : Skeleton) × (s.rows ≡ rows) × IsSkeleton s

-- a table has at most one skeleton
abbrev pub OneSkeleton : Type 0
OneSkeleton = (s t : Skeleton) → s.rows ≡ t.rows → IsSkeleton s → IsSkeleton t → s ≡ t

-- an edge of a table is joined to its own reverse or not
abbrev pub InvalidOrNot : Type 0
InvalidOrNot = (rows : List Row) (i : ℕ) → IsTable rows → i < 6 * length rows → IsInvalidEdge rows i ⊎ (IsInvalidEdge rows i → ⊥)

-- so there is a least invalid edge class, or none is invalid
abbrev pub SomeFirstInvalid : Type 0
SomeFirstInvalid = (s : Skeleton) → IsSkeleton s → (first : Option ℕ) × IsFirstInvalid s first

-- there are signs that are true at the least tetrahedron of each component, or a table is not orientable
abbrev pub SomeOrientation : Type 0
SomeOrientation = (rows : List Row) → IsTable rows → (signs : Option (List Bool)) × IsOrientation rows signs

-- each vertex class has a link
abbrev pub SomeLinks : Type 0
SomeLinks = (s : Skeleton) → IsSkeleton s → (links : List Link) × (length links ≡ s.vertices.count) × AreLinks s (length links) links

-- the links of the vertex classes are unique
abbrev pub OneListOfLinks : Type 0
OneListOfLinks = (s : Skeleton) (links others : List Link) → length links ≡ length others → AreLinks s (length links) links → AreLinks s (length others) others → links ≡ others

-- each table has equations in any coordinates
abbrev pub SomeEquations : Type 0
SomeEquations = (coords : Coords) (rows : List Row) → IsTable rows → (equations : List EquationRow) × AreEquations coords rows equations

-- a table has at most one system of equations in any coordinates
abbrev pub OneSystem : Type 0
OneSystem = (coords : Coords) (rows : List Row) (equations others : List EquationRow) → AreEquations coords rows equations → AreEquations coords rows others → equations ≡ others

-- Edges of orientable tables and of double covers.
use Rattle.std.specs.Prelude.{◌≡◌, ℕ, ◌*◌, ◌≤◌, List, length, None}
use Rattle.table_definitions.specs.Classes.{IsNumbering}
use Rattle.table_definitions.specs.Places.{SameEdge, HasValidEdges}
use Rattle.table_definitions.specs.Table.{max_tets, Row, IsTable}
use Rattle.skeleton_definitions.specs.Links.{SameDirected}
use Rattle.skeleton_definitions.specs.Orientation.{IsOrientable}
use Rattle.skeleton_definitions.specs.Skeleton.{Skeleton, IsSkeleton, IsFirstInvalid}
use Rattle.cover_definitions.specs.Cover.{cover}

-- Theorem: no edge of an orientable table is joined to its own reverse.
abbrev pub OrientableEdgesAreValid : Type 0
OrientableEdgesAreValid = (rows : List Row) → IsTable rows → IsOrientable rows → HasValidEdges rows

-- Theorem: no edge class of an orientable table is invalid.
abbrev pub OrientableClassesAreValid : Type 0
OrientableClassesAreValid = (s : Skeleton) → IsSkeleton s → IsOrientable s.rows → IsFirstInvalid s None

-- Theorem: an orientable table has twice as many classes of directed edges as edge classes.
abbrev pub OrientableEdgesHaveTwoDirections : Type 0
OrientableEdgesHaveTwoDirections =
    (rows : List Row) (edges directions : List ℕ) (e d : ℕ) → IsTable rows → IsOrientable rows → IsNumbering (6 * length rows) (SameEdge rows) edges e
    → IsNumbering (12 * length rows) (SameDirected rows) directions d → d ≡ 2 * e

-- Theorem: no edge of the double cover of a table is joined to its own reverse.
abbrev pub CoverEdgesAreValid : Type 0
CoverEdgesAreValid = (rows : List Row) → IsTable rows → 2 * length rows ≤ max_tets → HasValidEdges (cover rows)

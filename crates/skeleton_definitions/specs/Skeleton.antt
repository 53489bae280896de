-- A table with its vertex, edge and face classes and their properties, and the links of its vertex classes.
use Rattle.std.specs.Prelude.{◌≡◌, ℕ, ◌*◌, ◌<◌, Bool, false, ◌↔◌, List, [], length, Option, Some, None, IsTrue, slice_index}
use Rattle.std.specs.Bool.{MatchBool}
use Rattle.std.specs.List.{slice_index_or}
use Rattle.table_definitions.specs.Table.{Row, IsTable}
use Rattle.table_definitions.specs.Classes.{IsNumbering, least}
use Rattle.table_definitions.specs.Places.{SameVertex, SameEdge, SameFace, IsInvalidEdge, RunsAgainst, is_boundary_edge}
use Rattle.skeleton_definitions.specs.Orientation.{AreSigns, IsOrientable, StartTrue}
use Rattle.skeleton_definitions.specs.Corners.{Corner, first_corner, IsTourFrom}
use Rattle.skeleton_definitions.specs.Links.{SameDirected, IsLink}
use Rattle.skeleton_definitions.specs.declared.Link.{Link}

-- the class of each thing, and the number of classes
pub record Numbering : Type 0 where
  pub classes : List ℕ
  pub count : ℕ

pub record Skeleton : Type 0 where
  pub rows : List Row
  pub vertices : Numbering
  pub edges : Numbering
  pub faces : Numbering

-- the classes are those of the table's chains
pub record IsSkeleton (s : Skeleton) : Type 0 where
  pub table : IsTable s.rows
  pub vertices : IsNumbering (4 * length s.rows) (SameVertex s.rows) s.vertices.classes s.vertices.count
  pub edges : IsNumbering (6 * length s.rows) (SameEdge s.rows) s.edges.classes s.edges.count
  pub faces : IsNumbering (4 * length s.rows) (SameFace s.rows) s.faces.classes s.faces.count

-- no chain joins the least member of an edge class to its own reverse
abbrev pub IsValidClass : Skeleton → ℕ → Type 0
IsValidClass s c = IsInvalidEdge s.rows (least s.edges.classes c) → ⊥

-- whether edge i is directed against the least member of its class, and false for an invalid class
pub record IsDirection (s : Skeleton) (i : ℕ) (reversed : Bool) : Type 0 where
  pub valid : IsValidClass s (slice_index s.edges.classes i) → IsTrue reversed ↔ RunsAgainst s.rows (least s.edges.classes (slice_index s.edges.classes i)) i
  pub invalid : IsInvalidEdge s.rows (least s.edges.classes (slice_index s.edges.classes i)) → reversed ≡ false

-- the least invalid edge class, if there is one
abbrev pub IsFirstInvalid : Skeleton → Option ℕ → Type 0
IsFirstInvalid s None = (c : ℕ) → c < s.edges.count → IsValidClass s c
IsFirstInvalid s (Some c) = (c < s.edges.count) × IsInvalidEdge s.rows (least s.edges.classes c) × ((d : ℕ) → d < c → IsValidClass s d)

-- signs that are true at the least tetrahedron of each component, or `None` if there are none
abbrev pub IsOrientation : List Row → Option (List Bool) → Type 0
IsOrientation rows None = IsOrientable rows → ⊥
IsOrientation rows (Some signs) = AreSigns rows signs × StartTrue rows signs

-- the tour around an internal edge class from its least member, and no corner for a boundary class
abbrev pub IsAround : Skeleton → ℕ → List Corner → Type 0
IsAround s c corners =
    MatchBool (is_boundary_edge s.rows s.edges.classes c) (corners ≡ []) (IsTourFrom s.rows (first_corner (least s.edges.classes c)) corners)

-- the links of the vertex classes below n, by the numbering of the directed edges
pub record AreLinksUpTo (s : Skeleton) (directions : List ℕ) (n : ℕ) (links : List Link) : Type 0 where
  pub one_each : length links ≡ n
  pub reported : (c : ℕ) (l : Link) → c < n → l ≡ slice_index_or links c l → IsLink s.rows s.vertices.classes directions c l

-- the links of the vertex classes, by some numbering of the directed edges
abbrev pub AreLinks : Skeleton → ℕ → List Link → Type 0
AreLinks s n links = (directions : List ℕ) × (k : ℕ) × IsNumbering (12 * length s.rows) (SameDirected s.rows) directions k × AreLinksUpTo s directions n links

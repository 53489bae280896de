-- The laws of classes: what neighbours join, and that the things of each kind have classes and edge classes have walks.
use Rattle.std.specs.Prelude.{ℕ, ◌*◌, ◌<◌, ◌↔◌, List, length, Option}
use Rattle.table_walk_laws.specs.Joined.{IsJoined, neighbours_of}
use Rattle.table_definitions.specs.Table.{Row, IsTable}
use Rattle.table_definitions.specs.Classes.{IsNumbering}
use Rattle.skeleton_definitions.specs.Corners.{Corner}
use Rattle.skeleton_definitions.specs.Skeleton.{Skeleton, IsSkeleton, IsAround}
use Rattle.skeleton_class_laws.specs.declared.Kind.{Kind}
use Rattle.skeleton_class_laws.specs.Neighbours.{AreNeighbours}
use Rattle.skeleton_class_laws.specs.Numberings.{per_tet, crossing, same}

-- numbers are joined by what lies across faces if and only if they are the same thing
abbrev pub JoinedIsSame : Type 0
JoinedIsSame = (kind : Kind) (rows : List Row) (table : List (List (Option ℕ))) → IsTable rows → AreNeighbours (per_tet kind * length rows) (crossing kind rows) table →
    (i j : ℕ) → i < per_tet kind * length rows → j < per_tet kind * length rows → IsJoined (neighbours_of table) i j ↔ same kind rows i j

-- the classes of a kind
pub record HasClasses (kind : Kind) (rows : List Row) : Type 0 where
  pub classes : List ℕ
  pub count : ℕ
  pub numbered : IsNumbering (per_tet kind * length rows) (same kind rows) classes count

-- each table has the classes of each kind
abbrev pub ClassesExist : Type 0
ClassesExist = (kind : Kind) (rows : List Row) → IsTable rows → HasClasses kind rows

-- and a tour around each edge class, or none if it is on the boundary
abbrev pub WalksExist : Type 0
WalksExist = (s : Skeleton) → IsSkeleton s → (c : ℕ) → c < s.edges.count → (corners : List Corner) × IsAround s c corners

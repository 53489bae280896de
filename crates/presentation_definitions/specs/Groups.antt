-- The group of a table: its tree faces with its presentation, or why there is none.
use Rattle.std.specs.Prelude.{◌≡◌, ℕ, ◌<◌, List, length, Option, Some, None}
use Rattle.std.specs.List.{slice_index_or}
use Rattle.table_definitions.specs.Table.{Row, Face}
use Rattle.table_definitions.specs.Places.{IsConnected, IsLeastUnreached}
use Rattle.skeleton_definitions.specs.Skeleton.{Skeleton, IsFirstInvalid}
use Rattle.presentation_definitions.specs.declared.GroupFault.{GroupFault}
use Rattle.presentation_definitions.specs.declared.GroupFault.TheVariants.{NotConnected, InvalidEdge}
use Rattle.presentation_definitions.specs.Trees.{IsTreeFace}
use Rattle.presentation_definitions.specs.Presentations.{Presentation, IsPresentation}

-- the tree face of a tetrahedron, and nothing for tetrahedron 0
abbrev pub IsTreeFaceAt : List Row → ℕ → Option Face → Type 0
IsTreeFaceAt rows t None = t ≡ 0
IsTreeFaceAt rows t (Some x) = IsTreeFace rows t x

-- the same of each tetrahedron, in order
pub record IsTree (rows : List Row) (tree : List (Option Face)) : Type 0 where
  pub one_each : length tree ≡ length rows
  pub reported : (t : ℕ) → t < length rows → IsTreeFaceAt rows t (slice_index_or tree t None)

-- the tree faces and the presentation by them
pub record Group : Type 0 where
  pub tree : List (Option Face)
  pub presentation : Presentation

pub record IsGroup (s : Skeleton) (g : Group) : Type 0 where
  pub tree : IsTree s.rows g.tree
  pub presentation : IsPresentation s g.presentation

-- there is a group if the table is connected and each edge class is valid
pub record HasGroup (s : Skeleton) : Type 0 where
  pub connected : IsConnected s.rows
  pub valid : IsFirstInvalid s None

-- why there is none: a table that is not connected comes before an invalid edge class
abbrev pub IsGroupFault : Skeleton → GroupFault → Type 0
IsGroupFault s (NotConnected tet) = IsLeastUnreached s.rows tet
IsGroupFault s (InvalidEdge class) = IsConnected s.rows × IsFirstInvalid s (Some class)

-- Kinds of things, and their classes.
use Rattle.std.specs.Prelude.{◌≡◌, ℕ, ◌*◌, ◌<◌, ◌≤◌, List, length, Option, slice_index}
use Rattle.table_definitions.specs.Table.{Row}
use Rattle.table_definitions.specs.Classes.{IsNumbering, least}
use Rattle.table_definitions.specs.Places.{SameVertex, SameEdge, SameFace}
use Rattle.skeleton_definitions.specs.Links.{SameDirected}
use Rattle.skeleton_class_laws.specs.Crossings.{crossed_vertex, crossed_face, crossed_edge, crossed_direction}
use Rattle.skeleton_class_laws.specs.Neighbours.{IsLed}
use Rattle.skeleton_class_laws.specs.Signs.{crossed_sign, crossed_vertex_sign}
use Rattle.skeleton_class_laws.specs.declared.Kind.{Kind}
use Rattle.skeleton_class_laws.specs.declared.Kind.TheVariants.{Vertices, Edges, Directions, Faces, Signs, VertexSigns}

-- how many of them a tetrahedron has
abbrev pub per_tet : Kind → ℕ
per_tet Vertices = 4
per_tet Edges = 6
per_tet Directions = 12
per_tet Faces = 4
per_tet Signs = 2
per_tet VertexSigns = 8

abbrev pub crossing : Kind → List Row → ℕ → ℕ → Option ℕ
crossing Vertices rows = crossed_vertex rows
crossing Edges rows = crossed_edge rows
crossing Directions rows = crossed_direction rows
crossing Faces rows = crossed_face rows
crossing Signs rows = crossed_sign rows
crossing VertexSigns rows = crossed_vertex_sign rows

-- which of them are the same
abbrev pub same : Kind → List Row → ℕ → ℕ → Type 0
same Vertices rows = SameVertex rows
same Edges rows = SameEdge rows
same Directions rows = SameDirected rows
same Faces rows = SameFace rows
same Signs rows = IsLed (crossed_sign rows)
same VertexSigns rows = IsLed (crossed_vertex_sign rows)

-- each smaller class than that of x is the class of an earlier thing
abbrev pub IsOrdered : List ℕ → Type 0
IsOrdered classes = (x class : ℕ) → x < length classes → class < slice_index classes x → (y : ℕ) × (y < x) × (slice_index classes y ≡ class)

-- the least member of each class
pub record AreFirsts (classes firsts : List ℕ) : Type 0 where
  pub limited : length firsts ≤ length classes
  pub below : (i : ℕ) → i < length classes → slice_index classes i < length firsts
  pub least_member : (c : ℕ) → c < length firsts → slice_index firsts c ≡ least classes c
  pub in_range : (c : ℕ) → c < length firsts → slice_index firsts c < length classes
  pub member : (c : ℕ) → c < length firsts → slice_index classes (slice_index firsts c) ≡ c

-- the classes of a kind
pub record AreClassesOf (kind : Kind) (rows : List Row) (classes firsts : List ℕ) : Type 0 where
  pub numbering : IsNumbering (per_tet kind * length rows) (same kind rows) classes (length firsts)
  pub least_members : AreFirsts classes firsts

-- as `AreFirsts`, for the things before index i
pub record AreFirstsUpTo (i : ℕ) (classes firsts : List ℕ) : Type 0 where
  pub below : (j : ℕ) → j < i → slice_index classes j < length firsts
  pub least_member : (c : ℕ) → c < length firsts → slice_index firsts c ≡ least classes c
  pub in_range : (c : ℕ) → c < length firsts → slice_index firsts c < i
  pub member : (c : ℕ) → c < length firsts → slice_index classes (slice_index firsts c) ≡ c

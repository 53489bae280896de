-- What `info` is to answer: the skeleton of a table and the links of its vertices.
use Rattle.std.specs.Prelude.{◌≡◌, ℕ, zero, suc, ◌+◌, ◌<◌, ◌↔◌, Bool, true, false, ℤ, pos, ◌-ℤ◌, List, [], ◌++◌, length, IsTrue, codes, decimal}
use Rattle.std.specs.Fmt.{signed_decimal}
use Rattle.std.specs.List.{slice_index_or}
use Rattle.table_definitions.specs.Table.{Row}
use Rattle.table_definitions.specs.Classes.{degree}
use Rattle.table_definitions.specs.Places.{IsConnected, is_closed, is_boundary_edge}
use Rattle.skeleton_definitions.specs.Orientation.{IsOrientable}
use Rattle.skeleton_definitions.specs.declared.LinkKind.{LinkKind}
use Rattle.skeleton_definitions.specs.declared.LinkKind.TheVariants.{Sphere, Disc, Torus, Klein, Other}
use Rattle.skeleton_definitions.specs.declared.Link.{Link}
use Rattle.skeleton_definitions.specs.Skeleton.{Skeleton, IsSkeleton, IsValidClass, AreLinks}
use Rattle.text_definitions.specs.Written.{line, yes_or_no}
use Rattle.outcome_definitions.specs.declared.Status.TheVariants.{Done}
use Rattle.outcome_definitions.specs.Lines.{number_line}
use Rattle.outcome_definitions.specs.Outcomes.{Outcome}

-- the skeleton of a table, the links of its vertex classes, which edge classes are valid, and whether the table is
-- connected and orientable
pub record Information : Type 0 where
  pub skeleton : Skeleton
  pub links : List Link
  pub valid : List Bool
  pub connected : Bool
  pub orientable : Bool

-- no link, if the class is out of range
abbrev pub no_link : Link
no_link = record { triangles = 0; edges = 0; vertices = 0; euler = pos 0; closed = false; orientable = false; kind = Sphere }

-- which edge classes are valid
abbrev pub AreValid : Skeleton → ℕ → List Bool → Type 0
AreValid s count valid = (c : ℕ) → c < count → IsTrue (slice_index_or valid c false) ↔ IsValidClass s c

-- the answer is true of the table
pub record IsInformation (rows : List Row) (i : Information) : Type 0 where
  pub of_table : i.skeleton.rows ≡ rows
  pub skeleton : IsSkeleton i.skeleton
  pub one_each : length i.links ≡ i.skeleton.vertices.count
  pub links : AreLinks i.skeleton (length i.links) i.links
  pub valid : AreValid i.skeleton i.skeleton.edges.count i.valid
  pub connected : IsTrue i.connected ↔ IsConnected rows
  pub orientable : IsTrue i.orientable ↔ IsOrientable rows

abbrev pub reported : List ℕ → Bool → List ℕ
reported name b = line (name ++ yes_or_no b)

abbrev pub kind_word : LinkKind → List ℕ
kind_word Sphere = codes "sphere"
kind_word Disc = codes "disc"
kind_word Torus = codes "torus"
kind_word Klein = codes "klein"
kind_word Other = codes "other"

abbrev pub place_word : Bool → List ℕ
place_word true = codes "boundary"
place_word false = codes "inner"

-- vertices minus edges plus faces minus tetrahedra
abbrev pub characteristic : Skeleton → ℤ
characteristic s = pos (s.vertices.count + s.faces.count) -ℤ pos (s.edges.count + length s.rows)

abbrev pub flags_text : Skeleton → Bool → Bool → List ℕ
flags_text s connected orientable =
    number_line (codes "tetrahedra ") (length s.rows) ++ reported (codes "connected ") connected ++ reported (codes "orientable ") orientable ++ reported (codes "closed ") (is_closed s.rows)

abbrev pub counts_text : Skeleton → List ℕ
counts_text s =
    number_line (codes "vertices ") s.vertices.count ++ number_line (codes "edges ") s.edges.count ++ number_line (codes "faces ") s.faces.count
    ++ line (codes "euler " ++ signed_decimal (characteristic s))

-- a vertex class: its degree, and the Euler characteristic and kind of its link
abbrev pub vertex_line : ℕ → ℕ → Link → List ℕ
vertex_line c members link = line (codes "vertex " ++ decimal c ++ codes " degree " ++ decimal members ++ codes " euler " ++ signed_decimal link.euler
    ++ codes " closed " ++ yes_or_no link.closed ++ codes " kind " ++ kind_word link.kind)

-- an edge class: its degree, whether it lies in the boundary, and whether it is valid
abbrev pub edge_line : ℕ → ℕ → Bool → Bool → List ℕ
edge_line c members in_boundary valid = line (codes "edge " ++ decimal c ++ codes " degree " ++ decimal members ++ codes " place " ++ place_word in_boundary
    ++ codes " valid " ++ yes_or_no valid)

abbrev pub vertex_text : Skeleton → List Link → ℕ → List ℕ
vertex_text s links c = vertex_line c (degree s.vertices.classes c) (slice_index_or links c no_link)

abbrev pub edge_text : Skeleton → List Bool → ℕ → List ℕ
edge_text s valid c = edge_line c (degree s.edges.classes c) (is_boundary_edge s.rows s.edges.classes c) (slice_index_or valid c false)

-- the lines of the classes below n, ascending
unfoldable pub classes_text : (ℕ → List ℕ) → ℕ → List ℕ
classes_text text zero = []
classes_text text (suc n) = classes_text text n ++ text n

abbrev pub information_text : Information → List ℕ
information_text i =
    flags_text i.skeleton i.connected i.orientable ++ counts_text i.skeleton ++ classes_text (vertex_text i.skeleton i.links) i.skeleton.vertices.count
    ++ classes_text (edge_text i.skeleton i.valid) i.skeleton.edges.count

-- the answer of `info` to a table
abbrev pub IsInformationAnswer : List Row → Outcome → Type 0
IsInformationAnswer rows o = (i : Information) × IsInformation rows i × (o ≡ record { status = Done; text = information_text i })

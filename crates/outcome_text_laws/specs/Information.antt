-- The text that `info` prints determines what it says of the table.
use Rattle.std.specs.Prelude.{◌≡◌, ℕ, ◌<◌, false, List, length}
use Rattle.std.specs.List.{slice_index_or}
use Rattle.table_definitions.specs.Table.{Row}
use Rattle.table_definitions.specs.Classes.{degree}
use Rattle.table_definitions.specs.Places.{is_closed, is_boundary_edge}
use Rattle.skeleton_definitions.specs.declared.Link.{Link}
use Rattle.outcome_definitions.specs.Outcomes.{Outcome}
use Rattle.outcome_definitions.specs.Information.{Information, IsInformationAnswer, no_link}

-- what is printed of two links
pub record AreSameLinks (link other : Link) : Type 0 where
  pub euler : link.euler ≡ other.euler
  pub closed : link.closed ≡ other.closed
  pub kind : link.kind ≡ other.kind

-- what is printed of vertex class c of two tables
pub record AreSameVertices (i j : Information) (c : ℕ) : Type 0 where
  pub degrees : degree i.skeleton.vertices.classes c ≡ degree j.skeleton.vertices.classes c
  pub links : AreSameLinks (slice_index_or i.links c no_link) (slice_index_or j.links c no_link)

-- what is printed of edge class c of two tables
pub record AreSameEdges (i j : Information) (c : ℕ) : Type 0 where
  pub degrees : degree i.skeleton.edges.classes c ≡ degree j.skeleton.edges.classes c
  pub boundary : is_boundary_edge i.skeleton.rows i.skeleton.edges.classes c ≡ is_boundary_edge j.skeleton.rows j.skeleton.edges.classes c
  pub valid : slice_index_or i.valid c false ≡ slice_index_or j.valid c false

-- all that is printed of two tables is equal
pub record AreSameInformation (i j : Information) : Type 0 where
  pub tetrahedra : length i.skeleton.rows ≡ length j.skeleton.rows
  pub connected : i.connected ≡ j.connected
  pub orientable : i.orientable ≡ j.orientable
  pub closed : is_closed i.skeleton.rows ≡ is_closed j.skeleton.rows
  pub vertices : i.skeleton.vertices.count ≡ j.skeleton.vertices.count
  pub edges : i.skeleton.edges.count ≡ j.skeleton.edges.count
  pub faces : i.skeleton.faces.count ≡ j.skeleton.faces.count
  pub each_vertex : (c : ℕ) → c < i.skeleton.vertices.count → AreSameVertices i j c
  pub each_edge : (c : ℕ) → c < i.skeleton.edges.count → AreSameEdges i j c

-- Theorem: answers of `info` with the same text say the same of their tables
abbrev pub InformationTextsDetermine : Type 0
InformationTextsDetermine = (rows others : List Row) (o p : Outcome) (h : IsInformationAnswer rows o) (k : IsInformationAnswer others p) → o.text ≡ p.text → AreSameInformation h.0 k.0

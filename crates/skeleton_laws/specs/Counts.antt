-- How many sides, directions and faces there are to the classes of a table.
use Rattle.std.specs.Prelude.{◌≡◌, ℕ, ◌+◌, ◌*◌, List, length, count_by, IsTrue}
use Rattle.table_definitions.specs.Lists.{times_in}
use Rattle.table_definitions.specs.Table.{Row, IsTable}
use Rattle.table_definitions.specs.Classes.{IsNumbering}
use Rattle.table_definitions.specs.Places.{SameVertex, SameEdge, SameFace, HasValidEdges, is_boundary, is_closed}
use Rattle.skeleton_definitions.specs.Links.{SameDirected, sides, link_edges}

-- an edge of a link is a side of two of its triangles, or of one in a boundary face
abbrev pub LinkEdgesAreSides : Type 0
LinkEdgesAreSides =
    (rows : List Row) (classes : List ℕ) (count c : ℕ) → IsTable rows → IsNumbering (4 * length rows) (SameVertex rows) classes count
    → 2 * link_edges rows classes c ≡ 3 * times_in classes c + count_by (is_boundary rows) (sides classes c)

-- where no edge is invalid, an edge class has two classes of directions
abbrev pub EdgesHaveTwoDirections : Type 0
EdgesHaveTwoDirections =
    (rows : List Row) (edges directions : List ℕ) (e d : ℕ) → IsTable rows → HasValidEdges rows → IsNumbering (6 * length rows) (SameEdge rows) edges e
    → IsNumbering (12 * length rows) (SameDirected rows) directions d → d ≡ 2 * e

-- in a closed table a face class has two faces
abbrev pub FacesHaveTwoSides : Type 0
FacesHaveTwoSides = (rows : List Row) (faces : List ℕ) (f : ℕ) → IsTable rows → IsTrue (is_closed rows) → IsNumbering (4 * length rows) (SameFace rows) faces f → 4 * length rows ≡ 2 * f

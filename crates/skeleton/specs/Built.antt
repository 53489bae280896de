-- All that a skeleton stores.
use Rattle.std.specs.Prelude.{◌≡◌, ℕ, Bool, List, length, Option, Vec}
use Rattle.std.specs.declared.alloc.Global.{Global}
use Rattle.skeleton_definitions.specs.Corners.{Corner}
use Rattle.table_definitions.specs.Table.{Row, IsTable}
use Rattle.table_definitions.specs.Places.{is_closed}
use Rattle.skeleton_definitions.specs.Skeleton.{IsOrientation}
use Rattle.skeleton_class_laws.specs.declared.Kind.TheVariants.{Vertices, Edges, Directions, Faces}
use Rattle.skeleton_class_laws.specs.Numberings.{AreClassesOf}
use Rattle.skeleton.specs.Parts.{AreRounds}
use Rattle.skeleton.specs.Parts.{AreDegrees, AreBoundaryMarks}

pub record Built : Type 0 where
  pub rows : List Row
  pub vertices : List ℕ
  pub vertex_firsts : List ℕ
  pub edges : List ℕ
  pub edge_firsts : List ℕ
  pub faces : List ℕ
  pub face_firsts : List ℕ
  pub directions : List ℕ
  pub direction_firsts : List ℕ
  pub vertex_degrees : List ℕ
  pub edge_degrees : List ℕ
  pub boundary : List Bool
  pub closed : Bool
  pub signs : Option (List Bool)
  pub walks : List (Vec Corner Global)

pub record IsBuilt (b : Built) : Type 0 where
  pub table : IsTable b.rows
  pub vertices : AreClassesOf Vertices b.rows b.vertices b.vertex_firsts
  pub edges : AreClassesOf Edges b.rows b.edges b.edge_firsts
  pub faces : AreClassesOf Faces b.rows b.faces b.face_firsts
  pub directions : AreClassesOf Directions b.rows b.directions b.direction_firsts
  pub vertex_degrees : AreDegrees b.vertices (length b.vertex_firsts) b.vertex_degrees
  pub edge_degrees : AreDegrees b.edges (length b.edge_firsts) b.edge_degrees
  pub boundary : AreBoundaryMarks b.rows b.edges (length b.edge_firsts) b.boundary
  pub closed : b.closed ≡ is_closed b.rows
  pub orientation : IsOrientation b.rows b.signs
  pub walks : AreRounds b.rows b.edge_firsts b.boundary (length b.edge_firsts) b.walks

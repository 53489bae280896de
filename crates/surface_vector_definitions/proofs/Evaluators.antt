-- The properties of a vector, computed, for the examples.
use Rattle.std.proofs.Common.{ℕ, List, Option, Some, None, Result, Ok, Err}
use Rattle.std.specs.Prelude.{sum}
use Rattle.table_definitions.specs.Table.{Row}
use Rattle.surface_definitions.specs.declared.Coords.{Coords}
use Rattle.surface_definitions.specs.Characteristic.{points, arcs, is_linking, meets_boundary}
use Rattle.skeleton_definitions.specs.Links.{euler_of as euler}
use Rattle.skeleton_definitions.specs.Skeleton.{Skeleton}
use Rattle.skeleton_definitions.proofs.Evaluators.{vertex_classes, edge_classes, face_classes, count_of}
use Rattle.surface_vector_definitions.specs.Properties.{first_large}
use Rattle.surface_vector_definitions.specs.declared.Properties.{Properties}
use Rattle.surface_vector_definitions.specs.declared.SurfaceSum.{SurfaceSum}
use Rattle.surface_vector_definitions.specs.declared.PropertyFault.{PropertyFault}
use Rattle.surface_vector_definitions.specs.declared.PropertyFault.TheVariants.{Large}

abbrev pub skeleton_of : List Row → Skeleton
skeleton_of rows = record {
  rows = rows;
  vertices = record { classes = vertex_classes rows; count = count_of (vertex_classes rows) };
  edges = record { classes = edge_classes rows; count = count_of (edge_classes rows) };
  faces = record { classes = face_classes rows; count = count_of (face_classes rows) };
}

abbrev pub properties_of : Skeleton → Coords → List ℕ → Properties
properties_of s coords xs = record {
  points = points coords xs s.edges.classes s.edges.count;
  arcs = arcs s.rows coords xs;
  pieces = sum xs;
  euler = euler (points coords xs s.edges.classes s.edges.count) (arcs s.rows coords xs) (sum xs);
  linking = is_linking coords xs;
  boundary = meets_boundary s.rows coords xs;
}

abbrev pub answer_by : Option SurfaceSum → Properties → Result Properties PropertyFault
answer_by None p = Ok p
answer_by (Some sum) p = Err (Large sum)

abbrev pub answer : ℕ → Skeleton → Coords → List ℕ → Result Properties PropertyFault
answer max s coords xs = answer_by (first_large max s coords xs) (properties_of s coords xs)

-- For each kind of items (vertices, edges, directed edges, faces, signed tetrahedra and signed vertices): a table of
-- neighbours joins two items if and only if the gluings identify them.
use Rattle.std.proofs.Common.{◌≡◌, ◌↔◌, ℕ, ◌*◌, ◌<◌, List, length, Option, Some}
use Rattle.table_walk_laws.specs.Joined.{IsJoined, neighbours_of}
use Rattle.table_definitions.specs.Table.{Row, IsTable}
use Rattle.skeleton_class_laws.specs.declared.Kind.{Kind}
use Rattle.skeleton_class_laws.specs.declared.Kind.TheVariants.{Vertices, Edges, Directions, Faces, Signs, VertexSigns}
use Rattle.table_definitions.specs.Places.{vertex}
use Rattle.skeleton_definitions.specs.Links.{directed}
use Rattle.skeleton_class_laws.specs.Crossings.{vertex_at, crossed_vertex, direction_at, crossed_direction}
use Rattle.skeleton_class_laws.specs.Neighbours.{AreNeighbours, IsLed, IsReversible}
use Rattle.skeleton_class_laws.specs.Numberings.{per_tet, crossing, same}
use Rattle.skeleton_class_laws.proofs.NeighbourLemmas.{joined_is_led}
use Rattle.skeleton_class_laws.proofs.PlaceLemmas.{led_is_joined, reversible, few_faces}
use Rattle.skeleton_class_laws.proofs.VertexTies.{vertices_counted}
use Rattle.skeleton_class_laws.proofs.DirectionTies.{directions_counted}
use Rattle.skeleton_class_laws.proofs.EdgeTies.{edges_reversible, few_edge_faces, led_is_same_edge}
use Rattle.skeleton_class_laws.proofs.SignTies.{signs_reversible, few_sign_faces}
use Rattle.skeleton_class_laws.proofs.VertexSignTies.{vertex_signs_reversible, few_vertex_sign_faces}
use Rattle.skeleton_class_laws.proofs.FaceTies.{faces_reversible, few_choices, led_is_same_face}

pub each_reversible : (kind : Kind) (rows : List Row) → IsTable rows → IsReversible (per_tet kind * length rows) (crossing kind rows)
each_reversible Vertices rows table = reversible rows _ vertex vertex_at (crossed_vertex rows) (vertices_counted rows table) table
each_reversible Edges rows table = edges_reversible rows table
each_reversible Directions rows table = reversible rows _ directed direction_at (crossed_direction rows) (directions_counted rows table) table
each_reversible Faces rows table = faces_reversible rows table
each_reversible Signs rows table = signs_reversible rows table
each_reversible VertexSigns rows table = vertex_signs_reversible rows table

each_few : (kind : Kind) (rows : List Row) → IsTable rows → (i f j : ℕ) → i < per_tet kind * length rows → crossing kind rows i f ≡ Some j → f < 4
each_few Vertices rows table = few_faces rows _ vertex vertex_at (crossed_vertex rows) (vertices_counted rows table) table
each_few Edges rows table = few_edge_faces rows table
each_few Directions rows table = few_faces rows _ directed direction_at (crossed_direction rows) (directions_counted rows table) table
each_few Faces rows table = few_choices rows table
each_few Signs rows table = few_sign_faces rows table
each_few VertexSigns rows table = few_vertex_sign_faces rows table

led_is_same : (kind : Kind) (rows : List Row) → IsTable rows → (i j : ℕ) → i < per_tet kind * length rows → j < per_tet kind * length rows → IsLed (crossing kind rows) i j ↔ same kind rows i j
led_is_same Vertices rows table i j l m = led_is_joined rows _ vertex vertex_at (crossed_vertex rows) (vertices_counted rows table) i j l m
led_is_same Edges rows table i j l m = led_is_same_edge rows table i j
led_is_same Directions rows table i j l m = led_is_joined rows _ directed direction_at (crossed_direction rows) (directions_counted rows table) i j l m
led_is_same Faces rows table i j l m = led_is_same_face rows table i j
led_is_same Signs rows table i j l m = (λ h. h, λ h. h)
led_is_same VertexSigns rows table i j l m = (λ h. h, λ h. h)

pub joined_is_same : (kind : Kind) (rows : List Row) (table : List (List (Option ℕ))) → IsTable rows → AreNeighbours (per_tet kind * length rows) (crossing kind rows) table
    → (i j : ℕ) → i < per_tet kind * length rows → j < per_tet kind * length rows → IsJoined (neighbours_of table) i j ↔ same kind rows i j
joined_is_same kind rows table t a i j l m =
    let one = joined_is_led (per_tet kind * length rows) (crossing kind rows) table a (each_reversible kind rows t) (each_few kind rows t) i j l in
    let two = led_is_same kind rows t i j l m in
    (λ h. two.0 (one.0 h), λ h. one.1 (two.1 h))

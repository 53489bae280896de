-- Slow ways to compute tree faces, generators and relators of small tables, for the examples.
use Rattle.std.proofs.Common.{ℕ, zero, suc, ◌+◌, ◌*◌, min, Bool, false, List, [], ◌∷◌, length, map, Option, Some, None}
use Rattle.std.specs.Prelude.{◌==◌, ◌&&◌, not, filter, filter_map, find, fold, slice_index}
use Rattle.table_definitions.specs.Lists.{below, has}
use Rattle.table_definitions.specs.Table.{Gluing, Row, Face, glue, faces, face_number}
use Rattle.table_definitions.specs.Classes.{least, degree}
use Rattle.table_definitions.specs.Places.{Place, across, whole, face_of}
use Rattle.skeleton_definitions.specs.Corners.{first_corner, internal_edges, left_through}
use Rattle.skeleton_definitions.specs.Skeleton.{Skeleton}
use Rattle.skeleton_definitions.proofs.Evaluators.{neighbours_by, vertex_classes, edge_classes, face_classes, count_of, walk_from}
use Rattle.presentation_definitions.specs.Trees.{evens, is_odd_number}
use Rattle.presentation_definitions.specs.Presentations.{letter_of, Presentation}

abbrev pub skeleton_by : List Row → List ℕ → List ℕ → List ℕ → Skeleton
skeleton_by rows vertices edges faces = record {
  rows = rows;
  vertices = record { classes = vertices; count = count_of vertices };
  edges = record { classes = edges; count = count_of edges };
  faces = record { classes = faces; count = count_of faces };
}

abbrev pub skeleton_of : List Row → Skeleton
skeleton_of rows = skeleton_by rows (vertex_classes rows) (edge_classes rows) (face_classes rows)

-- each tetrahedron gets the least number among its own and one more than its neighbours'
abbrev pub nearer : List Row → List ℕ → List ℕ
nearer rows ds = map (λ t. fold (λ a u. min a (slice_index ds u + 1)) (slice_index ds t) (neighbours_by (λ (p : Place). p.tet) (across rows (whole t)))) (below (length ds))

abbrev pub nearest : ℕ → List Row → List ℕ → List ℕ
nearest zero rows ds = ds
nearest (suc n) rows [] = []
nearest (suc n) rows (d ∷ ds) = nearest n rows (nearer rows (d ∷ ds))

abbrev pub distances : List Row → List ℕ
distances rows = nearest (length rows) rows (map (λ t. length rows * min t 1) (below (length rows)))

abbrev pub inverse_if_reached : ℕ → Option Gluing → Bool
inverse_if_reached t None = false
inverse_if_reached t (Some g) = g.tet == t

abbrev pub tree_face : List Row → List ℕ → ℕ → Option Face
tree_face rows ds t = find (λ x. inverse_if_reached t (glue rows x) && (slice_index ds x.tet + 1 == slice_index ds t)) (faces (length rows))

abbrev pub tree_path : ℕ → List Row → List ℕ → Option Face → List Face
tree_path zero rows ds x = []
tree_path (suc n) rows ds None = []
tree_path (suc n) rows ds (Some x) = x ∷ tree_path n rows ds (tree_face rows ds x.tet)

abbrev pub tree_faces : List Row → List ℕ → List Face
tree_faces rows ds = filter_map (tree_face rows ds) (below (length rows))

abbrev pub generators_by : Skeleton → List ℕ → List ℕ
generators_by s ds =
    filter (λ c. (degree s.faces.classes c == 2) && not (has (map (λ x. slice_index s.faces.classes (face_number x)) (tree_faces s.rows ds)) c)) (below s.faces.count)

abbrev pub behind : Option Gluing → ℕ
behind None = 0
behind (Some g) = g.tet

abbrev pub turns_by : Skeleton → List ℕ → Face → Bool
turns_by s ds x = is_odd_number (evens s.rows (tree_path (length s.rows) s.rows ds (tree_face s.rows ds x.tet)) + evens s.rows (x ∷ [])
    + evens s.rows (tree_path (length s.rows) s.rows ds (tree_face s.rows ds (behind (glue s.rows x)))))

abbrev pub presentation_by : Skeleton → List ℕ → List ℕ → Presentation
presentation_by s ds generators = record {
  generators = generators;
  turning = map (λ c. turns_by s ds (face_of (least s.faces.classes c))) generators;
  edges = internal_edges s.rows s.edges.classes s.edges.count;
  relators = map (λ c. filter_map (λ k. letter_of s generators (face_number (left_through k))) (walk_from s.rows (first_corner (least s.edges.classes c)))) (internal_edges s.rows s.edges.classes s.edges.count);
}

abbrev pub presentation_of : Skeleton → Presentation
presentation_of s = presentation_by s (distances s.rows) (generators_by s (distances s.rows))

-- Slow ways to compute classes, signs and walks of small tables, for the examples.
use Rattle.std.proofs.Common.{ℕ, zero, suc, ◌+◌, ◌-◌, ◌*◌, ◌/◌, ◌%◌, min, max, Bool, List, [], ◌∷◌, length, map, Option, Some, None}
use Rattle.std.specs.Prelude.{◌==◌, nat_lt, ◌&&◌, ◌||◌, not, count_by, slice_index, filter_map, fold, option_to_list, if◌then◌else◌, ℤ}
use Rattle.std.specs.List.{flat_map, list_all}
use Rattle.table_definitions.specs.Lists.{below, same_list, times_in}
use Rattle.table_definitions.specs.Permutation.{four, is_odd, others}
use Rattle.table_definitions.specs.Table.{Gluing, Row, glue, other_side}
use Rattle.table_definitions.specs.Places.{Place, across, whole, vertex, edge, face_of, edge_number}
use Rattle.skeleton_definitions.specs.Links.{directed, vertex_number, link_edges, link_vertices, euler_of, is_closed_link, kind_of}
use Rattle.skeleton_definitions.specs.declared.Link.{Link}
use Rattle.skeleton_definitions.specs.Corners.{Corner, step}

-- each item gets the least label among its own and its neighbours'
abbrev pub spread : (ℕ → List ℕ) → List ℕ → List ℕ
spread neighbours labels = map (λ i. fold (λ a j. min a (slice_index labels j)) (slice_index labels i) (neighbours i)) (below (length labels))

abbrev pub spread_often : ℕ → (ℕ → List ℕ) → List ℕ → List ℕ
spread_often zero neighbours labels = labels
spread_often (suc n) neighbours [] = []
spread_often (suc n) neighbours (l ∷ ls) = spread_often n neighbours (spread neighbours (l ∷ ls))

-- the classes of n items under their neighbours, numbered by their least members
abbrev pub numbered : List ℕ → List ℕ
numbered labels = map (λ l. count_by (λ m. slice_index labels m == m) (below l)) labels

abbrev pub classes_of : (ℕ → List ℕ) → ℕ → List ℕ
classes_of neighbours n = numbered (spread_often n neighbours (below n))

-- the number of classes that occur in a list of classes
abbrev pub count_of : List ℕ → ℕ
count_of classes = fold (λ a c. max a (c + 1)) 0 classes

abbrev pub neighbours_by : {A : Type 0} → (A → ℕ) → (ℕ → Option A) → List ℕ
neighbours_by number at = map number (filter_map at four)

abbrev pub vertex_classes : List Row → List ℕ
vertex_classes rows =
    classes_of (λ i. neighbours_by (λ (p : Place). vertex_number p.tet (slice_index p.vertices 0)) (across rows (vertex i))) (4 * length rows)

abbrev pub edge_classes : List Row → List ℕ
edge_classes rows =
    classes_of (λ i. neighbours_by (λ (p : Place). 6 * p.tet + edge_number (slice_index p.vertices 0) (slice_index p.vertices 1)) (across rows (edge i))) (6 * length rows)

abbrev pub face_classes : List Row → List ℕ
face_classes rows =
    classes_of (λ i. map (λ (g : Gluing). 4 * g.tet + (other_side (face_of i) g).face) (option_to_list (glue rows (face_of i)))) (4 * length rows)

abbrev pub directed_number : Place → ℕ
directed_number p =
    12 * p.tet + 3 * slice_index p.vertices 0 + count_by (λ w. nat_lt w (slice_index p.vertices 1)) (others (slice_index p.vertices 0))

abbrev pub directed_classes : List Row → List ℕ
directed_classes rows = classes_of (λ i. neighbours_by directed_number (across rows (directed i))) (12 * length rows)

abbrev pub components : List Row → List ℕ
components rows = classes_of (λ t. neighbours_by (λ (p : Place). p.tet) (across rows (whole t))) (length rows)

-- a tetrahedron with a sign: 2t and 2t + 1
abbrev pub signed_number : ℕ → ℕ → Bool → ℕ
signed_number t s odd = 2 * t + (if odd then s else 1 - s)

-- no chain of gluings joins a tetrahedron with one sign to itself with the other
abbrev pub is_orientable : List Row → Bool
is_orientable rows = list_all (λ t. not (slice_index doubled (2 * t) == slice_index doubled (2 * t + 1))) (below (length rows))
  where
    doubled : List ℕ
    doubled = classes_of (λ i. neighbours_by (λ (g : Gluing). signed_number g.tet (i % 2) (is_odd g.perm)) (λ f. glue rows (record { tet = i / 2; face = f }))) (2 * length rows)

abbrev pub signed_side : List Row → ℕ → ℕ → ℕ → List ℕ
signed_side rows i s f = map (λ (g : Gluing). signed_number (vertex_number g.tet (slice_index g.perm (i % 4))) s (is_odd g.perm)) (option_to_list (glue rows (record { tet = i / 4; face = f })))

-- the members of a vertex class with signs, joined across the sides of their triangles
abbrev pub is_orientable_link : List Row → List ℕ → ℕ → Bool
is_orientable_link rows classes c = list_all (λ i. not (slice_index classes i == c) || not (slice_index doubled (2 * i) == slice_index doubled (2 * i + 1))) (below (length classes))
  where
    doubled : List ℕ
    doubled = classes_of (λ k. flat_map (signed_side rows (k / 2) (k % 2)) (others (k / 2 % 4))) (2 * length classes)

abbrev pub link_with : List Row → List ℕ → List ℕ → ℕ → ℤ → Link
link_with rows classes directions c euler = record {
  triangles = times_in classes c;
  edges = link_edges rows classes c;
  vertices = link_vertices classes directions c;
  euler = euler;
  closed = is_closed_link rows classes c;
  orientable = is_orientable_link rows classes c;
  kind = kind_of (is_closed_link rows classes c) euler (is_orientable_link rows classes c);
}

abbrev pub link_of : List Row → ℕ → Link
link_of rows c =
    link_with rows classes directions c (euler_of (link_vertices classes directions c) (link_edges rows classes c) (times_in classes c))
  where
    classes : List ℕ
    classes = vertex_classes rows

    directions : List ℕ
    directions = directed_classes rows

-- the walk from a corner until it returns, in at most n steps
abbrev pub same_corner : Corner → Corner → Bool
same_corner k l = (k.tet == l.tet) && same_list (k.a ∷ k.b ∷ k.c ∷ k.d ∷ []) (l.a ∷ l.b ∷ l.c ∷ l.d ∷ [])

abbrev pub walk_on : ℕ → List Row → Corner → Option Corner → List Corner
walk_on n rows first None = []
walk_on zero rows first (Some k) = []
walk_on (suc n) rows first (Some k) = if same_corner k first then [] else k ∷ walk_on n rows first (step rows k)

abbrev pub walk_from : List Row → Corner → List Corner
walk_from rows first = first ∷ walk_on (24 * length rows) rows first (step rows first)

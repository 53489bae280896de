-- The link of a vertex class: a triangle for each member.
use Rattle.std.specs.Prelude.{◌≡◌, ℕ, ◌+◌, ◌*◌, ◌/◌, ◌%◌, ◌<◌, Bool, true, false, ◌&&◌, not, ℤ, pos, ◌-ℤ◌, ◌↔◌, List, [], ◌∷◌, length, ◌==◌, Option, Some, None, count_by, map, zero, suc, slice_index, IsTrue}
use Rattle.std.specs.List.{list_all, flat_map}
use Rattle.table_definitions.specs.Lists.{below, times_in}
use Rattle.table_definitions.specs.Permutation.{image, others}
use Rattle.table_definitions.specs.Table.{Gluing, Row, Face, glue, other_side, is_face_before}
use Rattle.table_definitions.specs.Classes.{is_least, members}
use Rattle.table_definitions.specs.Places.{Place, IsJoined, is_boundary}
use Rattle.skeleton_definitions.specs.Orientation.{sign_of, sign_across}
use Rattle.skeleton_definitions.specs.declared.LinkKind.{LinkKind}
use Rattle.skeleton_definitions.specs.declared.LinkKind.TheVariants.{Sphere, Disc, Torus, Klein, Other}
use Rattle.skeleton_definitions.specs.declared.Link.{Link}

-- directed place i, the i % 12-th pair of vertices v and w of tetrahedron i / 12: the corner, in the triangle at v, on
-- the edge to w
abbrev pub directed : ℕ → Place
directed i = record { tet = i / 12; vertices = (i % 12) / 3 ∷ slice_index (others ((i % 12) / 3)) (i % 3) ∷ [] }

abbrev pub SameDirected : List Row → ℕ → ℕ → Type 0
SameDirected rows i j = IsJoined rows (directed i) (directed j)

-- the number of the vertex v of tetrahedron t
abbrev pub vertex_number : ℕ → ℕ → ℕ
vertex_number t v = 4 * t + v

-- the sides of the triangles of a vertex class, each as the face that it lies in
abbrev pub sides : List ℕ → ℕ → List Face
sides classes c = flat_map (λ i. map (λ f. record { tet = i / 4; face = f }) (others (i % 4))) (members classes c)

-- whether a face is a boundary face or the first of two that are glued
abbrev pub is_first_side : Face → Option Gluing → Bool
is_first_side x None = true
is_first_side x (Some g) = is_face_before x (other_side x g)

-- the edges of a link are the sides of its triangles, two glued ones counted once
abbrev pub link_edges : List Row → List ℕ → ℕ → ℕ
link_edges rows classes c = count_by (λ x. is_first_side x (glue rows x)) (sides classes c)

-- the vertices of a link are the classes of directed places that begin at a member
abbrev pub link_vertices : List ℕ → List ℕ → ℕ → ℕ
link_vertices classes directions c =
    count_by (λ i. is_least directions i && (slice_index classes (vertex_number (i / 12) ((i % 12) / 3)) == c)) (below (length directions))

-- vertices less edges plus triangles
abbrev pub euler_of : ℕ → ℕ → ℕ → ℤ
euler_of vertices edges triangles = pos (vertices + triangles) -ℤ pos edges

-- whether no side of a triangle lies in a boundary face
abbrev pub is_closed_link : List Row → List ℕ → ℕ → Bool
is_closed_link rows classes c = list_all (λ x. not (is_boundary rows x)) (sides classes c)

-- a sign for each member of a vertex class, which stays across odd gluings and changes across even ones
abbrev pub AreLinkSigns : List Row → List ℕ → ℕ → List Bool → Type 0
AreLinkSigns rows classes c signs =
    (t v f : ℕ) (g : Gluing) → v < 4 → f < 4 → (v ≡ f → ⊥) → slice_index classes (vertex_number t v) ≡ c
    → glue rows (record { tet = t; face = f }) ≡ Some g
    → sign_of signs (vertex_number g.tet (image g.perm v)) ≡ sign_across g (sign_of signs (vertex_number t v))

abbrev pub IsOrientableLink : List Row → List ℕ → ℕ → Type 0
IsOrientableLink rows classes c = (signs : List Bool) × (length signs ≡ length classes) × AreLinkSigns rows classes c signs

-- the kind of a closed link, and of one that is not
abbrev pub closed_kind : ℤ → Bool → LinkKind
closed_kind (pos zero) true = Torus
closed_kind (pos zero) false = Klein
closed_kind (pos (suc (suc zero))) orientable = Sphere
closed_kind _ _ = Other

abbrev pub open_kind : ℤ → LinkKind
open_kind (pos (suc zero)) = Disc
open_kind _ = Other

-- closed, Euler characteristic, orientable
abbrev pub kind_of : Bool → ℤ → Bool → LinkKind
kind_of true euler orientable = closed_kind euler orientable
kind_of false euler orientable = open_kind euler

-- the link of vertex class c, by the numberings of the vertices and of the directed places
pub record IsLink (rows : List Row) (classes directions : List ℕ) (c : ℕ) (link : Link) : Type 0 where
  pub triangles : link.triangles ≡ times_in classes c
  pub edges : link.edges ≡ link_edges rows classes c
  pub vertices : link.vertices ≡ link_vertices classes directions c
  pub euler : link.euler ≡ euler_of link.vertices link.edges link.triangles
  pub closed : link.closed ≡ is_closed_link rows classes c
  pub orientable : IsTrue link.orientable ↔ IsOrientableLink rows classes c
  pub kind : link.kind ≡ kind_of link.closed link.euler link.orientable

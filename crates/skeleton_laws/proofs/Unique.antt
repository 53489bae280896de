-- The skeleton, the links and the equations of a table are unique.
use Rattle.std.proofs.Common.{◌≡◌, ℕ, ◌*◌, ◌<◌, List, length, slice_index_or, sym, subst, ◌∙◌, ext_get_or}
use Rattle.std.specs.Prelude.{false, pos, zero}
use Rattle.std.proofs.lemmas.List.{get_or_default}
use Rattle.basic_lemmas.proofs.Truths.{same_truth}
use Rattle.skeleton_definitions.specs.declared.Link.{Link}
use Rattle.skeleton_definitions.specs.declared.LinkKind.TheVariants.{Other}
use Rattle.skeleton_definitions.specs.Links.{SameDirected, euler_of, kind_of, IsLink}
use Rattle.skeleton_definitions.specs.Skeleton.{Skeleton, AreLinks}
use Rattle.skeleton_definitions.proofs.OneSkeleton.{one_classes}

-- what a list of links has after its end
abbrev nothing : Link
nothing = record { triangles = 0; edges = 0; vertices = 0; euler = pos zero; closed = false; orientable = false; kind = Other }

module _ (s : Skeleton) (directions : List ℕ) (c : ℕ) (l m : Link) (h : IsLink s.rows s.vertices.classes directions c l) (k : IsLink s.rows s.vertices.classes directions c m) where
  triangles_agree : l.triangles ≡ m.triangles
  triangles_agree = h.triangles ∙ sym k.triangles

  edges_agree : l.edges ≡ m.edges
  edges_agree = h.edges ∙ sym k.edges

  vertices_agree : l.vertices ≡ m.vertices
  vertices_agree = h.vertices ∙ sym k.vertices

  characteristics_agree : l.euler ≡ m.euler
  characteristics_agree = h.euler ∙ (λ i. euler_of (vertices_agree i) (edges_agree i) (triangles_agree i)) ∙ sym k.euler

  boundaries_agree : l.closed ≡ m.closed
  boundaries_agree = h.closed ∙ sym k.closed

  orientability_agrees : l.orientable ≡ m.orientable
  orientability_agrees = same_truth l.orientable m.orientable (λ t. k.orientable.1 (h.orientable.0 t)) (λ t. h.orientable.1 (k.orientable.0 t))

  kinds_agree : l.kind ≡ m.kind
  kinds_agree = h.kind ∙ (λ i. kind_of (boundaries_agree i) (characteristics_agree i) (orientability_agrees i)) ∙ sym k.kind

  class_has_one_link : l ≡ m
  class_has_one_link = λ i. record {
    triangles = triangles_agree i;
    edges = edges_agree i;
    vertices = vertices_agree i;
    euler = characteristics_agree i;
    closed = boundaries_agree i;
    orientable = orientability_agrees i;
    kind = kinds_agree i;
  }

-- the list of links of a skeleton is unique
pub one_list : (s : Skeleton) (links others : List Link) → length links ≡ length others → AreLinks s (length links) links → AreLinks s (length others) others → links ≡ others
one_list s links others e h k = ext_get_or nothing links others e (λ c l. class_has_one_link s k.0 c (slice_index_or links c nothing) (slice_index_or others c nothing)
    (subst (λ (directions : List ℕ). IsLink s.rows s.vertices.classes directions c (slice_index_or links c nothing)) same
    (h.3.reported c (slice_index_or links c nothing) l (get_or_default links c nothing (slice_index_or links c nothing) l)))
    (k.3.reported c (slice_index_or others c nothing) (subst (λ (n : ℕ). c < n) e l) (get_or_default others c nothing (slice_index_or others c nothing) (subst (λ (n : ℕ). c < n) e l))))
  where
    same : h.0 ≡ k.0
    same = one_classes (12 * length s.rows) (SameDirected s.rows) h.0 k.0 h.1 k.1 h.2 k.2

-- The answer of `info` for a table is unique.
use Rattle.std.proofs.Common.{◌≡◌, ℕ, zero, suc, ◌*◌, ◌<◌, ◌↔◌, Bool, true, false, List, ◌++◌, length, slice_index_or, subst, sym, ap, ap₂, refl, ◌∙◌, arith}
use Rattle.std.specs.Prelude.{IsTrue}
use Rattle.std.proofs.lemmas.List.{get_or_default}
use Rattle.table_definitions.specs.Table.{Row}
use Rattle.table_definitions.specs.Classes.{degree}
use Rattle.table_definitions.specs.Places.{IsConnected, is_boundary_edge}
use Rattle.skeleton_definitions.specs.Orientation.{IsOrientable}
use Rattle.skeleton_definitions.specs.declared.Link.{Link}
use Rattle.skeleton_definitions.specs.Links.{IsLink, SameDirected, euler_of, kind_of, IsOrientableLink}
use Rattle.skeleton_definitions.specs.Skeleton.{Skeleton, IsValidClass, AreLinks}
use Rattle.outcome_definitions.specs.declared.Status.TheVariants.{Done}
use Rattle.outcome_definitions.specs.Outcomes.{Outcome}
use Rattle.outcome_definitions.specs.Information.{Information, IsInformation, IsInformationAnswer, no_link, AreValid, vertex_line, vertex_text, edge_line, edge_text, classes_text, flags_text, counts_text, information_text}
use Rattle.skeleton_definitions.proofs.OneSkeleton.{one_classes, one_skeleton}

-- two truth values of one proposition are equal
pub same_test : (P : Type 0) (a b : Bool) → IsTrue a ↔ P → IsTrue b ↔ P → a ≡ b
same_test P true true h k = refl
same_test P true false h k = sym (k.1 (h.0 refl))
same_test P false true h k = h.1 (k.0 refl)
same_test P false false h k = refl

-- the link of a vertex class is unique
one_link : (rows : List Row) (classes directions : List ℕ) (c : ℕ) (l m : Link) → IsLink rows classes directions c l → IsLink rows classes directions c m → l ≡ m
one_link rows classes directions c l m h k = λ i. record {
  triangles = triangles i;
  edges = edges i;
  vertices = vertices i;
  euler = euler i;
  closed = closed i;
  orientable = orientable i;
  kind = kind i;
}
  where
    triangles : l.triangles ≡ m.triangles
    triangles = h.triangles ∙ sym k.triangles

    edges : l.edges ≡ m.edges
    edges = h.edges ∙ sym k.edges

    vertices : l.vertices ≡ m.vertices
    vertices = h.vertices ∙ sym k.vertices

    euler : l.euler ≡ m.euler
    euler = h.euler ∙ (λ i. euler_of (vertices i) (edges i) (triangles i)) ∙ sym k.euler

    closed : l.closed ≡ m.closed
    closed = h.closed ∙ sym k.closed

    orientable : l.orientable ≡ m.orientable
    orientable = same_test (IsOrientableLink rows classes c) l.orientable m.orientable h.orientable k.orientable

    kind : l.kind ≡ m.kind
    kind = h.kind ∙ (λ i. kind_of (closed i) (euler i) (orientable i)) ∙ sym k.kind

-- two lists of links agree at the classes that both have
links_agree : (s : Skeleton) (n m : ℕ) (links others : List Link) → AreLinks s n links → AreLinks s m others → (c : ℕ) → c < n → c < m →
    slice_index_or links c no_link ≡ slice_index_or others c no_link
links_agree s n m links others h k c l r = one_link s.rows s.vertices.classes k.0 c one other
    (subst (λ (directions : List ℕ). IsLink s.rows s.vertices.classes directions c one) same
    (h.3.reported c one l (get_or_default links c no_link one (let e = h.3.one_each in omega arith))))
    (k.3.reported c other r (get_or_default others c no_link other (let e = k.3.one_each in omega arith)))
  where
    one : Link
    one = slice_index_or links c no_link

    other : Link
    other = slice_index_or others c no_link

    same : h.0 ≡ k.0
    same = one_classes (12 * length s.rows) (SameDirected s.rows) h.0 k.0 h.1 k.1 h.2 k.2

-- equal lines for the classes below n make equal texts
same_lines : (text other : ℕ → List ℕ) (n : ℕ) → ((c : ℕ) → c < n → text c ≡ other c) → classes_text text n ≡ classes_text other n
unfolding classes_text
same_lines text other zero h = refl
same_lines text other (suc n) h = ap₂ (λ (front last : List ℕ). front ++ last) (same_lines text other n (λ c l. h c (omega arith))) (h n (omega arith))

vertices_agree : (s : Skeleton) (links others : List Link) → length links ≡ s.vertices.count → length others ≡ s.vertices.count →
    AreLinks s (length links) links → AreLinks s (length others) others →
    classes_text (vertex_text s links) s.vertices.count ≡ classes_text (vertex_text s others) s.vertices.count
vertices_agree s links others e f h k = same_lines (vertex_text s links) (vertex_text s others) s.vertices.count
    (λ c l. ap (vertex_line c (degree s.vertices.classes c)) (links_agree s (length links) (length others) links others h k c (omega arith) (omega arith)))

edges_agree : (s : Skeleton) (valid others : List Bool) → AreValid s s.edges.count valid → AreValid s s.edges.count others →
    classes_text (edge_text s valid) s.edges.count ≡ classes_text (edge_text s others) s.edges.count
edges_agree s valid others h k = same_lines (edge_text s valid) (edge_text s others) s.edges.count
    (λ c l. ap (edge_line c (degree s.edges.classes c) (is_boundary_edge s.rows s.edges.classes c))
    (same_test (IsValidClass s c) (slice_index_or valid c false) (slice_index_or others c false) (h c l) (k c l)))

-- the information with another skeleton
abbrev on : Skeleton → Information → Information
on s i = record i { skeleton = s }

one_skeleton_text : (rows : List Row) (i j : Information) → i.skeleton ≡ j.skeleton → IsInformation rows i → IsInformation rows j →
    information_text i ≡ information_text j
one_skeleton_text rows i j e h k = ap (λ (s : Skeleton). information_text (on s i)) e ∙ same
  where
    moved : IsInformation rows (on j.skeleton i)
    moved = subst (λ (s : Skeleton). IsInformation rows (on s i)) e h

    flags : flags_text j.skeleton i.connected i.orientable ≡ flags_text j.skeleton j.connected j.orientable
    flags = ap₂ (flags_text j.skeleton)
        (same_test (IsConnected rows) i.connected j.connected h.connected k.connected)
        (same_test (IsOrientable rows) i.orientable j.orientable h.orientable k.orientable)

    vertices : classes_text (vertex_text j.skeleton i.links) j.skeleton.vertices.count ≡ classes_text (vertex_text j.skeleton j.links) j.skeleton.vertices.count
    vertices = vertices_agree j.skeleton i.links j.links moved.one_each k.one_each moved.links k.links

    edges : classes_text (edge_text j.skeleton i.valid) j.skeleton.edges.count ≡ classes_text (edge_text j.skeleton j.valid) j.skeleton.edges.count
    edges = edges_agree j.skeleton i.valid j.valid moved.valid k.valid

    same : information_text (on j.skeleton i) ≡ information_text j
    same = λ t. flags t ++ counts_text j.skeleton ++ vertices t ++ edges t

one_text : (rows : List Row) (i j : Information) → IsInformation rows i → IsInformation rows j → information_text i ≡ information_text j
one_text rows i j h k = one_skeleton_text rows i j (one_skeleton i.skeleton j.skeleton (h.of_table ∙ sym k.of_table) h.skeleton k.skeleton) h k

pub one_information : (rows : List Row) (o p : Outcome) → IsInformationAnswer rows o → IsInformationAnswer rows p → o ≡ p
one_information rows o p h k =
    let make : List ℕ → Outcome = λ text. record { status = Done; text = text } in
    h.2 ∙ ap make (one_text rows h.0 k.0 h.1 k.1) ∙ sym k.2

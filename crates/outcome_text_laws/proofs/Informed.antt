-- The text of `info` determines what it says of the table.
use Rattle.std.proofs.Common.{◌≡◌, ℕ, ◌*◌, ◌^◌, ◌<◌, ◌≤◌, List, [], ◌++◌, length, slice_index_or, refl, sym, ap, ◌∙◌, arith}
use Rattle.std.proofs.lemmas.List.{get_or_default}
use Rattle.table_definitions.specs.Table.{Row}
use Rattle.table_definitions.specs.Classes.{degree}
use Rattle.table_definitions.specs.Places.{is_closed, SameVertex, SameEdge, SameFace}
use Rattle.skeleton_definitions.specs.declared.Link.{Link}
use Rattle.skeleton_definitions.specs.Skeleton.{Skeleton, IsSkeleton}
use Rattle.outcome_definitions.specs.Outcomes.{Outcome}
use Rattle.outcome_definitions.specs.Information.{Information, IsInformation, vertex_text, edge_text, classes_text, information_text, no_link}
use Rattle.outcome_text_laws.specs.Information.{AreSameVertices, AreSameEdges, AreSameInformation, InformationTextsDetermine}
use Rattle.outcome_text_laws.proofs.SplitWords.{IsShortInteger, same_number, same_integer}
use Rattle.outcome_text_laws.proofs.Bounds.{count_within, degree_within, link_short}
use Rattle.outcome_text_laws.proofs.InformationLines.{Words, word_at, header, header_is_plain, vertex_words, vertex_is_plain, vertex_text_is, edge_words, edge_is_plain, edge_text_is, vertices_text, edges_text, information_lines, split_lines, split_classes, same_answer, same_place, same_kind}

-- the numbers of a table have at most 64 digits
pub record AreShortNumbers (i : Information) : Type 0 where
  tetrahedra : length i.skeleton.rows < 10 ^ 64
  vertices : i.skeleton.vertices.count < 10 ^ 64
  edges : i.skeleton.edges.count < 10 ^ 64
  faces : i.skeleton.faces.count < 10 ^ 64
  vertex_degrees : (c : ℕ) → degree i.skeleton.vertices.classes c < 10 ^ 64
  edge_degrees : (c : ℕ) → degree i.skeleton.edges.classes c < 10 ^ 64
  links : (c : ℕ) → c < i.skeleton.vertices.count → IsShortInteger (slice_index_or i.links c no_link).euler

short_numbers : (rows : List Row) (i : Information) → IsInformation rows i → AreShortNumbers i
short_numbers rows i h = record {
  tetrahedra = omega arith;
  vertices = (let l : s.vertices.count ≤ 4 * n = count_within (4 * n) (SameVertex s.rows) s.vertices.classes s.vertices.count k.vertices in omega (arith, limited));
  edges = (let l : s.edges.count ≤ 6 * n = count_within (6 * n) (SameEdge s.rows) s.edges.classes s.edges.count k.edges in omega (arith, limited));
  faces = (let l : s.faces.count ≤ 4 * n = count_within (4 * n) (SameFace s.rows) s.faces.classes s.faces.count k.faces in omega (arith, limited));
  vertex_degrees = λ c. (let l : degree s.vertices.classes c ≤ 4 * n = degree_within (4 * n) (SameVertex s.rows) s.vertices.classes s.vertices.count k.vertices c in omega (arith, limited));
  edge_degrees = λ c. (let l : degree s.edges.classes c ≤ 6 * n = degree_within (6 * n) (SameEdge s.rows) s.edges.classes s.edges.count k.edges c in omega (arith, limited));
  links = link;
}
  where
    s : Skeleton
    s = i.skeleton

    k : IsSkeleton s
    k = h.skeleton

    n : ℕ
    n = length s.rows

    limited : n ≤ 1000
    limited = k.table.limited

    one : ℕ → Link
    one c = slice_index_or i.links c no_link

    link : (c : ℕ) → c < i.skeleton.vertices.count → IsShortInteger (slice_index_or i.links c no_link).euler
    link c l =
        let each : length i.links ≡ i.skeleton.vertices.count = h.one_each in
        let inside : c < length i.links = omega arith in
        let classes : length s.vertices.classes ≡ 4 * n = k.vertices.one_each in
        let directed : length h.links.0 ≡ 12 * n = h.links.2.one_each in
        link_short s.rows s.vertices.classes h.links.0 c (one c) (omega (arith, limited)) (omega (arith, limited)) (h.links.3.reported c (one c) inside (get_or_default i.links c no_link (one c) inside))

module _ (i j : Information) (p : AreShortNumbers i) (q : AreShortNumbers j) (e : information_text i ≡ information_text j) where
  first : (header i ≡ header j) × (vertices_text i ++ edges_text i ≡ vertices_text j ++ edges_text j)
  first = split_lines (header i) (header j) (vertices_text i ++ edges_text i) (vertices_text j ++ edges_text j) refl (header_is_plain i) (header_is_plain j) (sym (information_lines i) ∙ e ∙ information_lines j)

  vertices : i.skeleton.vertices.count ≡ j.skeleton.vertices.count
  vertices = same_number i.skeleton.vertices.count j.skeleton.vertices.count p.vertices q.vertices (ap (λ (lines : List Words). word_at (slice_index_or lines 4 ([], [])) 0) first.0)

  edges : i.skeleton.edges.count ≡ j.skeleton.edges.count
  edges = same_number i.skeleton.edges.count j.skeleton.edges.count p.edges q.edges (ap (λ (lines : List Words). word_at (slice_index_or lines 5 ([], [])) 0) first.0)

  second : ((c : ℕ) → c < i.skeleton.vertices.count → vertex_words i c ≡ vertex_words j c) × (edges_text i ≡ edges_text j)
  second = split_classes (vertex_text i.skeleton i.links) (vertex_text j.skeleton j.links) (vertex_words i) (vertex_words j) i.skeleton.vertices.count (edges_text i) (edges_text j)
      (vertex_text_is i) (vertex_text_is j) (vertex_is_plain i) (vertex_is_plain j)
      (first.1 ∙ ap (λ (n : ℕ). classes_text (vertex_text j.skeleton j.links) n ++ edges_text j) (sym vertices))

  third : ((c : ℕ) → c < i.skeleton.edges.count → edge_words i c ≡ edge_words j c) × (◌≡◌ {A = List ℕ} [] [])
  third = split_classes (edge_text i.skeleton i.valid) (edge_text j.skeleton j.valid) (edge_words i) (edge_words j) i.skeleton.edges.count [] []
      (edge_text_is i) (edge_text_is j) (edge_is_plain i) (edge_is_plain j)
      (ap (λ (t : List ℕ). t ++ []) (second.1 ∙ ap (λ (n : ℕ). classes_text (edge_text j.skeleton j.valid) n) (sym edges)))

  vertex : (c : ℕ) → c < i.skeleton.vertices.count → AreSameVertices i j c
  vertex c l =
      let m : c < j.skeleton.vertices.count = (let v : i.skeleton.vertices.count ≡ j.skeleton.vertices.count = vertices in omega arith) in
      let same : vertex_words i c ≡ vertex_words j c = second.0 c l in
      record {
        degrees = same_number (degree i.skeleton.vertices.classes c) (degree j.skeleton.vertices.classes c) (p.vertex_degrees c) (q.vertex_degrees c) (ap (λ (ws : Words). word_at ws 2) same);
        links = record {
          euler = same_integer (slice_index_or i.links c no_link).euler (slice_index_or j.links c no_link).euler (p.links c l) (q.links c m) (ap (λ (ws : Words). word_at ws 4) same);
          closed = same_answer (slice_index_or i.links c no_link).closed (slice_index_or j.links c no_link).closed (ap (λ (ws : Words). word_at ws 6) same);
          kind = same_kind (slice_index_or i.links c no_link).kind (slice_index_or j.links c no_link).kind (ap (λ (ws : Words). word_at ws 8) same);
        };
      }

  edge : (c : ℕ) → c < i.skeleton.edges.count → AreSameEdges i j c
  edge c l =
      let same : edge_words i c ≡ edge_words j c = third.0 c l in
      record {
        degrees = same_number (degree i.skeleton.edges.classes c) (degree j.skeleton.edges.classes c) (p.edge_degrees c) (q.edge_degrees c) (ap (λ (ws : Words). word_at ws 2) same);
        boundary = same_place _ _ (ap (λ (ws : Words). word_at ws 4) same);
        valid = same_answer _ _ (ap (λ (ws : Words). word_at ws 6) same);
      }

  pub same_information : AreSameInformation i j
  same_information = record {
    tetrahedra = same_number (length i.skeleton.rows) (length j.skeleton.rows) p.tetrahedra q.tetrahedra (ap (λ (lines : List Words). word_at (slice_index_or lines 0 ([], [])) 0) first.0);
    connected = same_answer i.connected j.connected (ap (λ (lines : List Words). word_at (slice_index_or lines 1 ([], [])) 0) first.0);
    orientable = same_answer i.orientable j.orientable (ap (λ (lines : List Words). word_at (slice_index_or lines 2 ([], [])) 0) first.0);
    closed = same_answer (is_closed i.skeleton.rows) (is_closed j.skeleton.rows) (ap (λ (lines : List Words). word_at (slice_index_or lines 3 ([], [])) 0) first.0);
    vertices = vertices;
    edges = edges;
    faces = same_number i.skeleton.faces.count j.skeleton.faces.count p.faces q.faces (ap (λ (lines : List Words). word_at (slice_index_or lines 6 ([], [])) 0) first.0);
    each_vertex = vertex;
    each_edge = edge;
  }

pub information_told : InformationTextsDetermine
information_told rows others o p h k e =
    same_information h.0 k.0 (short_numbers rows h.0 h.1) (short_numbers others k.0 k.1)
    (sym (ap (λ (q : Outcome). q.text) h.2) ∙ e ∙ ap (λ (q : Outcome). q.text) k.2)

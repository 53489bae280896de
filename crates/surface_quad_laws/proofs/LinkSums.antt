-- Sums of vertex links, and solutions of triangles alone.
use Rattle.std.proofs.Common.{◌≡◌, ℕ, ◌+◌, ◌*◌, ◌/◌, ◌%◌, ◌<◌, ◌≤◌, true, List, [], length, inl, inr, refl, sym, ap, ◌∙◌, subst, arith}
use Rattle.std.specs.Prelude.{slice_index}
use Rattle.std.proofs.lemmas.Bool.{cases_lt, ne_eqb, eq-eqb, le-leb}
use Rattle.std.proofs.Math.Nat.{div-add-mod}
use Rattle.cone_definitions.specs.Rows.{IsSolution}
use Rattle.table_definitions.specs.Lists.{below}
use Rattle.table_definitions.specs.Classes.{least}
use Rattle.table_definitions.specs.Permutation.{image}
use Rattle.table_definitions.specs.Places.{SameVertex}
use Rattle.table_definitions.proofs.ClassLaws.{least_class}
use Rattle.table_definitions.proofs.PermutationLaws.{image_below, images_apart}
use Rattle.skeleton_definitions.specs.Links.{vertex_number}
use Rattle.skeleton_definitions.specs.Skeleton.{Skeleton, IsSkeleton}
use Rattle.surface_definitions.specs.Characteristic.{is_linking}
use Rattle.surface_definitions.specs.Coordinates.{columns, columns_each, triangles_each, tri_column}
use Rattle.surface_definitions.specs.declared.Coords.{Coords}
use Rattle.surface_definitions.proofs.ColumnCounts.{tet_below}
use Rattle.surface_definitions.specs.Equations.{matching_rows}
use Rattle.surface_laws.specs.LiftLaws.{AreHeights}
use Rattle.surface_laws.specs.MatchingLaws.{HasTriangles}
use Rattle.surface_laws.proofs.ColumnKinds.{four_triangles}
use Rattle.surface_laws.proofs.Counting.{one_term, sum_by-none}
use Rattle.surface_laws.proofs.Glued.{IsGlued, glued_is}
use Rattle.surface_laws.proofs.LinkingLemmas.{linking}
use Rattle.surface_laws.proofs.Solved.{solved}
use Rattle.surface_quad_laws.specs.LinkLaws.{link_of, links_sum}
use Rattle.surface_quad_laws.proofs.BareArcs.{IsBare, arcs_alone}
use Rattle.surface_quad_laws.proofs.Differences.{heights_differ}
use Rattle.surface_quad_laws.proofs.VertexLinks.{member, entry_if, triangle-link, others-link}

nothing : (a b : ℕ) → b ≡ 0 → a * b ≡ 0
nothing a b e = ap (λ z. a * z) e ∙ omega arith

once : (a b : ℕ) → b ≡ 1 → a * b ≡ a
once a b e = ap (λ z. a * z) e ∙ omega arith

-- each column is that of a triangle, or another
pub by_column : (coords : Coords) → HasTriangles coords → (n : ℕ) (P : ℕ → Type 0) → ((t v : ℕ) → t < n → v < 4 → P (tri_column coords t v)) → ((i : ℕ) → i < columns coords n → 4 ≤ i % columns_each coords → P i)
    → (i : ℕ) → i < columns coords n → P i
by_column coords h n P triangles rest i l = elim (cases_lt (i % columns_each coords) 4) [
  | inl low ↦ subst P (div-add-mod i (columns_each coords)) (triangles (i / columns_each coords) (i % columns_each coords) (tet_below coords n i l) low)
  | inr high ↦ rest i l high
]

module _ (s : Skeleton) (k : IsSkeleton s) (coords : Coords) (h : HasTriangles coords) where
  abbrev n : ℕ
  n = length s.rows

  abbrev class_of : ℕ → ℕ
  class_of i = slice_index s.vertices.classes i

  -- the sum of the links has `times c` triangles at each vertex of class c
  pub triangles-sum : (times : ℕ → ℕ) (t v : ℕ) → t < n → v < 4 → links_sum s coords times (tri_column coords t v) ≡ times (class_of (vertex_number t v))
  triangles-sum times t v lt lv =
      let i : ℕ = vertex_number t v in
      let li : i < 4 * n = omega arith in
      let c : ℕ = class_of i in
      let lc : c < s.vertices.count = (k.vertices).in_range i li in
      let entry : (d : ℕ) → slice_index (link_of s coords d) (tri_column coords t v) ≡ member s.vertices.classes d i = λ d. triangle-link n s.vertices.classes d coords t v h lt lv in
      one_term (λ d. times d * slice_index (link_of s coords d) (tri_column coords t v)) c s.vertices.count
      (λ d off. nothing (times d) (slice_index (link_of s coords d) (tri_column coords t v)) (entry d ∙ ap (entry_if true) (ne_eqb c d (λ e. off (sym e))))) lc
      ∙ once (times c) (slice_index (link_of s coords c) (tri_column coords t v)) (entry c ∙ ap (entry_if true) (eq-eqb c c refl))

  pub rest-sum : (times : ℕ → ℕ) (i : ℕ) → i < columns coords n → 4 ≤ i % columns_each coords → links_sum s coords times i ≡ 0
  rest-sum times i l high =
      sum_by-none (λ d. times d * slice_index (link_of s coords d) i) (below s.vertices.count) (λ d a. nothing (times d) (slice_index (link_of s coords d) i) (others-link n s.vertices.classes d coords i h l high))

  module _ (ys : List ℕ) (solution : IsSolution (columns coords n) (matching_rows coords s.rows) ys) (alone : is_linking coords ys ≡ true) where
    bare : IsBare coords n ys
    bare i l high = (linking coords ys).0 alone i (subst (λ m. i < m) (sym solution.width) l) (le-leb (triangles_each coords) (i % columns_each coords) (subst (λ m. m ≤ i % columns_each coords) (sym (four_triangles coords h)) high))

    abbrev triangle : ℕ → ℕ
    triangle i = slice_index ys (tri_column coords (i / 4) (i % 4))

    triangle-number : (t v : ℕ) → v < 4 → triangle (vertex_number t v) ≡ slice_index ys (tri_column coords t v)
    triangle-number t v l =
        let d : vertex_number t v / 4 ≡ t = omega arith in
        let r : vertex_number t v % 4 ≡ v = omega arith in
        λ i. slice_index ys (tri_column coords (d i) (r i))

    -- if all quads are 0, the numbers of triangles are heights, and so is 0
    heights : (c : ℕ) → AreHeights s [] c triangle
    heights c x g v e lv off ch =
        let i : IsGlued s.rows x g = glued_is s.rows x g k.table e in
        let lu : image g.perm v < 4 = image_below g.perm v i.permutes lv in
        ap (λ z. z + 0) (triangle-number x.tet v lv ∙ sym (arcs_alone coords n ys h bare x.tet x.face v i.tet i.face lv off)
        ∙ solved s.rows coords ys k.table h solution x g v e lv off
        ∙ arcs_alone coords n ys h bare g.tet (image g.perm x.face) (image g.perm v) i.other_tet i.other_face lu (images_apart g.perm v x.face i.permutes lv i.face off)
        ∙ sym (triangle-number g.tet (image g.perm v) lu))

    no_heights : (c : ℕ) → AreHeights s [] c (λ i. 0)
    no_heights c x g v e lv off ch = refl

    abbrev times : ℕ → ℕ
    times c = triangle (least s.vertices.classes c)

    one_for_all : (i : ℕ) → i < 4 * n → triangle i ≡ times (class_of i)
    one_for_all i li =
        let lc : class_of i < s.vertices.count = (k.vertices).in_range i li in
        let first : (least s.vertices.classes (class_of i) < 4 * n) × (class_of (least s.vertices.classes (class_of i)) ≡ class_of i) = least_class (4 * n) (SameVertex s.rows) s.vertices.classes s.vertices.count k.vertices (class_of i) lc in
        let d : triangle i + 0 ≡ 0 + times (class_of i) =
        heights_differ s k [] (class_of i) triangle (λ i. 0) (heights (class_of i)) (no_heights (class_of i)) i (least s.vertices.classes (class_of i)) li first.0 refl first.1 in
        omega arith

    pub linking_links : (many : ℕ → ℕ) × ((column : ℕ) → column < columns coords n → slice_index ys column ≡ links_sum s coords many column)
    linking_links = (
      times,
      by_column coords h n (λ i. slice_index ys i ≡ links_sum s coords times i)
          (λ t v lt lv. let li : vertex_number t v < 4 * n = omega arith in sym (triangle-number t v lv) ∙ one_for_all (vertex_number t v) li ∙ sym (triangles-sum times t v lt lv))
          (λ i l high. bare i l high ∙ sym (rest-sum times i l high)),
    )

-- A vertex link is a vertex surface: a solution inside it is a multiple of it.
use Rattle.std.proofs.Common.{◌≡◌, ◌≢◌, ℕ, ◌*◌, ◌/◌, ◌%◌, ◌<◌, ◌≤◌, true, ◌⊎◌, inl, inr, List, length, slice_index, sym, ap, subst, ◌∙◌, arith}
use Rattle.std.specs.Int.{◌∣◌}
use Rattle.std.proofs.Math.Nat.{eq-one_of_dvd-one}
use Rattle.std.proofs.lemmas.Bool.{cases_eq, leb-true, le-leb}
use Rattle.cone_definitions.specs.Vectors.{IsNonzero, IsInside, IsPrimitive}
use Rattle.cone_definitions.specs.Rows.{IsSolution}
use Rattle.cone_definitions.proofs.OneRay.{same_ray}
use Rattle.cone_definitions.proofs.Entries.{nonzero_before, entry_past, each_column}
use Rattle.skeleton_definitions.specs.Links.{vertex_number}
use Rattle.skeleton_definitions.specs.Skeleton.{Skeleton, IsSkeleton}
use Rattle.surface_definitions.specs.Characteristic.{is_linking}
use Rattle.surface_definitions.specs.Coordinates.{columns, columns_each, triangles_each, tri_column}
use Rattle.surface_definitions.specs.declared.Coords.{Coords}
use Rattle.surface_definitions.specs.Equations.{matching_rows}
use Rattle.surface_laws.specs.MatchingLaws.{HasTriangles}
use Rattle.surface_laws.proofs.LinkingLemmas.{linking}
use Rattle.surface_laws.proofs.Vertices.{number-vertex}
use Rattle.surface_laws.proofs.ColumnKinds.{column_below}
use Rattle.surface_quad_laws.specs.LinkLaws.{link_of, IsLinkSurface, IsCanonical, IsVertexLink}
use Rattle.surface_quad_laws.proofs.LinkSums.{by_column, triangles-sum, linking_links}
use Rattle.surface_laws.proofs.ColumnKinds.{four_triangles}
use Rattle.surface_quad_laws.proofs.VertexLinks.{length-link, others-link, link_surface, link-one, link-none}
use Rattle.surface_quad_laws.proofs.Canonical.{canonical_or_full}
use Rattle.surface_agreement_laws.specs.VertexSurfaces.{IsVertexSurfaceOf}

module _ (s : Skeleton) (k : IsSkeleton s) (coords : Coords) (h : HasTriangles coords) (c : ℕ) (lc : c < s.vertices.count) where
  abbrev n : ℕ
  n = length s.rows

  abbrev class_of : ℕ → ℕ
  class_of i = slice_index s.vertices.classes i

  abbrev link : List ℕ
  link = link_of s coords c

  is_link : IsLinkSurface s coords link
  is_link = link_surface s k c coords h

  -- 1 at the members of the class, and 0 at other vertices
  pub one_there : (t v : ℕ) → t < n → v < 4 → class_of (vertex_number t v) ≡ c → slice_index link (tri_column coords t v) ≡ 1
  one_there t v lt lv e = link-one n s.vertices.classes c coords t v h lt lv e

  pub none_listed : (t v : ℕ) → t < n → v < 4 → class_of (vertex_number t v) ≢ c → slice_index link (tri_column coords t v) ≡ 0
  none_listed t v lt lv e = link-none n s.vertices.classes c coords t v h lt lv e

  abbrev place : ℕ
  place = ((k.vertices).none_empty c lc).0

  low_place : place < 4 * n
  low_place = ((k.vertices).none_empty c lc).1

  abbrev some_column : ℕ
  some_column = tri_column coords (place / 4) (place % 4)

  one_at_place : slice_index link some_column ≡ 1
  one_at_place = one_there (place / 4) (place % 4) (let l = low_place in omega arith) (omega arith) (ap class_of (number-vertex place) ∙ ((k.vertices).none_empty c lc).2)

  nonzero : IsNonzero link
  nonzero = (some_column, λ z. let e : slice_index link some_column ≡ 1 = one_at_place in omega arith)

  primitive : IsPrimitive link
  primitive d divides = eq-one_of_dvd-one (subst (λ m. d ∣ m) one_at_place (divides some_column))

  module _ (zs : List ℕ) (sz : IsSolution (columns coords n) (matching_rows coords s.rows) zs) (some : IsNonzero zs) (inside : IsInside zs link) where
    alone : is_linking coords zs ≡ true
    alone = (linking coords zs).1 (λ i l q. inside i (others-link n s.vertices.classes c coords i h (subst (λ m. i < m) sz.width l)
        (subst (λ m. m ≤ i % columns_each coords) (four_triangles coords h) (leb-true (triangles_each coords) (i % columns_each coords) q))))

    -- how often the solution contains each link
    many : ℕ → ℕ
    many = (linking_links s k coords h zs sz alone).0

    triangle_is : (t v : ℕ) → t < n → v < 4 → slice_index zs (tri_column coords t v) ≡ many (class_of (vertex_number t v))
    unfolding many
    triangle_is t v lt lv = (linking_links s k coords h zs sz alone).1 (tri_column coords t v) (column_below coords h n t v lt lv) ∙ triangles-sum s k coords h many t v lt lv

    -- without this link the solution would be 0
    some_of_it : many c ≢ 0
    some_of_it z = some.1 (by_column coords h n (λ i. slice_index zs i ≡ 0)
        (λ t v lt lv. elim (cases_eq (class_of (vertex_number t v)) c) [
          | inl e ↦ triangle_is t v lt lv ∙ ap many e ∙ z
          | inr off ↦ inside (tri_column coords t v) (none_listed t v lt lv off)
        ])
        (λ i l high. inside i (others-link n s.vertices.classes c coords i h l high))
        some.0 (nonzero_before zs (columns coords n) some.0 sz.width some.1))

    around : IsInside link zs
    around = each_column (columns coords n) (λ i. slice_index zs i ≡ 0 → slice_index link i ≡ 0)
        (by_column coords h n (λ i. slice_index zs i ≡ 0 → slice_index link i ≡ 0)
        (λ t v lt lv z. elim (cases_eq (class_of (vertex_number t v)) c) [
          | inl e ↦ absurd (some_of_it (sym (ap many e) ∙ sym (triangle_is t v lt lv) ∙ z))
          | inr off ↦ none_listed t v lt lv off
        ])
        (λ i l high z. others-link n s.vertices.classes c coords i h l high))
        (λ i l z. entry_past link (columns coords n) i (length-link n s.vertices.classes c coords) l)

  pub link_vertex : IsVertexSurfaceOf s coords link
  link_vertex = record {
    extreme = record { solution = (is_link.surface).solves; nonzero = nonzero; least = λ zs sz some inside. around zs sz some inside };
    admissible = (is_link.surface).admissible;
    primitive = primitive;
  }

  -- a vertex surface with a triangle at each member of the class is the link
  pub is_the_link : (ys : List ℕ) → IsVertexSurfaceOf s coords ys → ((i : ℕ) → i < 4 * n → class_of i ≡ c → slice_index ys (tri_column coords (i / 4) (i % 4)) ≢ 0) → ys ≡ link
  is_the_link ys vertex all = same_ray (columns coords n) (matching_rows coords s.rows) ys link vertex.extreme vertex.primitive (is_link.surface).solves nonzero primitive inside
    where
      at_member : (t v : ℕ) → t < n → v < 4 → class_of (vertex_number t v) ≡ c → slice_index ys (tri_column coords t v) ≢ 0
      at_member t v lt lv e z =
          let d : vertex_number t v / 4 ≡ t = omega arith in
          let r : vertex_number t v % 4 ≡ v = omega arith in
          all (vertex_number t v) (omega arith) e ((λ i. slice_index ys (tri_column coords (d i) (r i))) ∙ z)

      inside : IsInside link ys
      inside = each_column (columns coords n) (λ i. slice_index ys i ≡ 0 → slice_index link i ≡ 0)
          (by_column coords h n (λ i. slice_index ys i ≡ 0 → slice_index link i ≡ 0)
          (λ t v lt lv z. elim (cases_eq (class_of (vertex_number t v)) c) [
            | inl e ↦ absurd (at_member t v lt lv e z)
            | inr off ↦ none_listed t v lt lv off
          ])
          (λ i l high z. others-link n s.vertices.classes c coords i h l high))
          (λ i l z. entry_past link (columns coords n) i (length-link n s.vertices.classes c coords) l)

module _ (s : Skeleton) (k : IsSkeleton s) (coords : Coords) (h : HasTriangles coords) (ys : List ℕ) where
  pub link_or_canonical : IsVertexSurfaceOf s coords ys → IsVertexLink s coords ys ⊎ IsCanonical s coords ys
  link_or_canonical vertex = elim (canonical_or_full s coords ys) [
    | inl canonical ↦ inr canonical
    | inr full ↦ inl (full.0, full.1, is_the_link s k coords h full.0 full.1 ys vertex full.2)
  ]

  -- a canonical solution of triangles alone is 0, since it is a sum of links and contains none
  canonical_zero : IsSolution (columns coords (length s.rows)) (matching_rows coords s.rows) ys → is_linking coords ys ≡ true → IsCanonical s coords ys
      → (i : ℕ) → i < columns coords (length s.rows) → slice_index ys i ≡ 0
  canonical_zero solution alone canonical = by_column coords h (length s.rows) (λ i. slice_index ys i ≡ 0) at_triangle at_other
    where
      at_triangle : (t v : ℕ) → t < length s.rows → v < 4 → slice_index ys (tri_column coords t v) ≡ 0
      at_triangle t v lt lv =
          let times = linking_links s k coords h ys solution alone in
          let is : (u w : ℕ) → u < length s.rows → w < 4 → slice_index ys (tri_column coords u w) ≡ times.0 (slice_index s.vertices.classes (vertex_number u w)) =
          λ u w lu lw. times.1 (tri_column coords u w) (column_below coords h (length s.rows) u w lu lw) ∙ triangles-sum s k coords h times.0 u w lu lw in
          let lc : vertex_number t v < 4 * length s.rows = omega arith in
          let m = canonical (slice_index s.vertices.classes (vertex_number t v)) ((k.vertices).in_range (vertex_number t v) lc) in
          let li : m.0 < 4 * length s.rows = m.1 in
          is t v lt lv ∙ ap times.0 (sym m.2 ∙ sym (ap (slice_index s.vertices.classes) (number-vertex m.0))) ∙ sym (is (m.0 / 4) (m.0 % 4) (omega arith) (omega arith)) ∙ m.3

      at_other : (i : ℕ) → i < columns coords (length s.rows) → 4 ≤ i % columns_each coords → slice_index ys i ≡ 0
      at_other i l high = (linking coords ys).0 alone i (subst (λ m. i < m) (sym solution.width) l) (le-leb (triangles_each coords) (i % columns_each coords) (subst (λ m. m ≤ i % columns_each coords) (sym (four_triangles coords h)) high))

  -- a vertex surface of triangles alone is a vertex link
  pub linking_is_link : IsVertexSurfaceOf s coords ys → is_linking coords ys ≡ true → IsVertexLink s coords ys
  linking_is_link vertex alone = elim (link_or_canonical vertex) [
    | inl link ↦ link
    | inr canonical ↦ (let some = (vertex.extreme).nonzero in
        absurd (some.1 (canonical_zero (vertex.extreme).solution alone canonical some.0 (nonzero_before ys (columns coords (length s.rows)) some.0 ((vertex.extreme).solution).width some.1))))
  ]

  pub link_is_linking : IsVertexLink s coords ys → is_linking coords ys ≡ true
  link_is_linking link = subst (λ xs. is_linking coords xs ≡ true) (sym link.2) (link_surface s k link.0 coords h).linking

-- the links of different classes differ
pub same_link : (s : Skeleton) (k : IsSkeleton s) (coords : Coords) (h : HasTriangles coords) (c d : ℕ) → c < s.vertices.count → d < s.vertices.count → link_of s coords c ≡ link_of s coords d → c ≡ d
same_link s k coords h c d lc ld e = elim (cases_eq c d) [
  | inl same ↦ same
  | inr off ↦
      let m = (k.vertices).none_empty c lc in
      let li : m.0 < 4 * length s.rows = m.1 in
      let at : slice_index s.vertices.classes (vertex_number (m.0 / 4) (m.0 % 4)) ≡ c = ap (slice_index s.vertices.classes) (number-vertex m.0) ∙ m.2 in
      let one : slice_index (link_of s coords c) (tri_column coords (m.0 / 4) (m.0 % 4)) ≡ 1 = one_there s k coords h c lc (m.0 / 4) (m.0 % 4) (omega arith) (omega arith) at in
      let none : slice_index (link_of s coords d) (tri_column coords (m.0 / 4) (m.0 % 4)) ≡ 0 = none_listed s k coords h d ld (m.0 / 4) (m.0 % 4) (omega arith) (omega arith) (λ f. off (sym at ∙ f)) in
      let same : slice_index (link_of s coords c) (tri_column coords (m.0 / 4) (m.0 % 4)) ≡ slice_index (link_of s coords d) (tri_column coords (m.0 / 4) (m.0 % 4)) = ap (λ ws. slice_index ws (tri_column coords (m.0 / 4) (m.0 % 4))) e in
      absurd (omega arith)
]

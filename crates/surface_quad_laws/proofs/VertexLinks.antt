-- A vertex link has equally many arcs on both sides of each gluing, since a gluing keeps the class.
use Rattle.std.proofs.Common.{◌≡◌, ◌≢◌, ℕ, ◌/◌, ◌%◌, ◌<◌, ◌≤◌, Bool, true, List, length, Some, ◌⊎◌, inl, inr, sym, ap, ◌∙◌, subst, arith}
use Rattle.std.specs.Prelude.{◌==◌, ◌&&◌, nat_lt, if◌then◌else◌, sum_by, slice_index}
use Rattle.std.proofs.lemmas.Bool.{eq-eqb, ne_eqb, lt-ltb, le-ltb, leb-true, and_parts, or_cases}
use Rattle.std.proofs.lemmas.List.{get_or-map, length-map}
use Rattle.std.proofs.lemmas.List.Elements.{All-from_recursion}
use Rattle.std.proofs.lemmas.List.FromFn.{length-range_with_len, get_or-range_with_len}
use Rattle.cone_definitions.specs.Surfaces.{IsAdmissible}
use Rattle.table_definitions.specs.Lists.{below, pairs_of}
use Rattle.table_definitions.specs.Permutation.{image, others}
use Rattle.table_definitions.specs.Table.{Gluing, Face, glue}
use Rattle.table_definitions.proofs.Listed.{among_contains, filter-among, pairs-among, below-among, all_from}
use Rattle.table_definitions.proofs.PermutationLaws.{image_below, images_apart}
use Rattle.skeleton_definitions.specs.Links.{vertex_number}
use Rattle.skeleton_definitions.specs.Skeleton.{Skeleton, IsSkeleton}
use Rattle.surface_definitions.specs.Coordinates.{columns, columns_each, triangles_each, before_octagons, tri_column, arc_columns, is_quad_or_octagon, is_octagon, clash_test, clash_list}
use Rattle.surface_definitions.specs.declared.Coords.{Coords}
use Rattle.surface_definitions.proofs.ColumnCounts.{tet_of_index, index_of_index}
use Rattle.surface_definitions.specs.Equations.{Holds, glued_pairs, matching}
use Rattle.surface_laws.specs.MatchingLaws.{HasTriangles}
use Rattle.surface_laws.proofs.ColumnKinds.{four_triangles, triangle_place, low_triangle, column_below}
use Rattle.surface_laws.proofs.Glued.{IsGlued, glued_is}
use Rattle.surface_laws.proofs.LinkingLemmas.{linking}
use Rattle.surface_laws.proofs.Matched.{pair_glued}
use Rattle.surface_laws.proofs.Solved.{rows_zero, other_is}
use Rattle.surface_laws.proofs.Vertices.{class_across}
use Rattle.surface_quad_laws.specs.LinkLaws.{link_entry, vertex_link, link_of, IsLinkSurface}
use Rattle.surface_quad_laws.proofs.BareArcs.{arcs_alone}

-- whether vertex i is in class c, as a number
abbrev pub member : List ℕ → ℕ → ℕ → ℕ
member classes c i = if slice_index classes i == c then 1 else 0

abbrev pub entry_if : Bool → Bool → ℕ
entry_if a b = if a && b then 1 else 0

-- of two columns that clash the first is no triangle's
no_triangle : (coords : Coords) (a b : ℕ) → HasTriangles coords → clash_test coords a b ≡ true → 4 ≤ a % columns_each coords
no_triangle coords a b h e = by_kind (or_cases (is_octagon coords a && is_octagon coords b) (((a / columns_each coords == b / columns_each coords) && is_quad_or_octagon coords a) && is_quad_or_octagon coords b) e)
  where
    further : (x : ℕ) → before_octagons coords ≤ x → 4 ≤ x
    further x l = let all = four_triangles coords h in omega (arith, all, l)

    by_kind : ((is_octagon coords a && is_octagon coords b) ≡ true) ⊎ ((((a / columns_each coords == b / columns_each coords) && is_quad_or_octagon coords a) && is_quad_or_octagon coords b) ≡ true) → 4 ≤ a % columns_each coords
    by_kind (inl o) = further (a % columns_each coords) (leb-true (before_octagons coords) (a % columns_each coords) (and_parts (is_octagon coords a) (is_octagon coords b) o).0)
    by_kind (inr q) = subst (λ k. k ≤ a % columns_each coords) (four_triangles coords h)
        (leb-true (triangles_each coords) (a % columns_each coords)
        (and_parts (a / columns_each coords == b / columns_each coords) (is_quad_or_octagon coords a) (and_parts ((a / columns_each coords == b / columns_each coords) && is_quad_or_octagon coords a) (is_quad_or_octagon coords b) q).0).1)

module _ (n : ℕ) (classes : List ℕ) (c : ℕ) where
  pub length-link : (coords : Coords) → length (vertex_link coords n classes c) ≡ columns coords n
  length-link coords = length-map (below (columns coords n)) (link_entry coords classes c) ∙ length-range_with_len 0 (columns coords n)

  entry-link : (coords : Coords) (i : ℕ) → i < columns coords n → slice_index (vertex_link coords n classes c) i ≡ link_entry coords classes c i
  entry-link coords i l =
      let inside : i < length (below (columns coords n)) = omega (arith, length-range_with_len 0 (columns coords n)) in
      get_or-map (link_entry coords classes c) (below (columns coords n)) i 0 0 inside ∙ ap (link_entry coords classes c) (get_or-range_with_len 0 (columns coords n) i 0 l ∙ omega arith)

  -- at triangles, and at quads and octagons
  pub triangle-link : (coords : Coords) (t v : ℕ) → HasTriangles coords → t < n → v < 4 → slice_index (vertex_link coords n classes c) (tri_column coords t v) ≡ member classes c (vertex_number t v)
  triangle-link coords t v h lt lv =
      let i : ℕ = tri_column coords t v in
      let place : v < columns_each coords = triangle_place coords v h lv in
      let d : i / columns_each coords ≡ t = tet_of_index coords t v place in
      let m : i % columns_each coords ≡ v = index_of_index coords t v place in
      entry-link coords i (column_below coords h n t v lt lv)
      ∙ ap (λ a. entry_if a (slice_index classes (vertex_number (i / columns_each coords) (i % columns_each coords)) == c)) (lt-ltb (i % columns_each coords) 4 (low_triangle coords t v h lv))
      ∙ (λ k. member classes c (vertex_number (d k) (m k)))

  pub link-one : (coords : Coords) (t v : ℕ) → HasTriangles coords → t < n → v < 4 → slice_index classes (vertex_number t v) ≡ c → slice_index (vertex_link coords n classes c) (tri_column coords t v) ≡ 1
  link-one coords t v h lt lv e = triangle-link coords t v h lt lv ∙ ap (entry_if true) (eq-eqb (slice_index classes (vertex_number t v)) c e)

  pub link-none : (coords : Coords) (t v : ℕ) → HasTriangles coords → t < n → v < 4 → slice_index classes (vertex_number t v) ≢ c → slice_index (vertex_link coords n classes c) (tri_column coords t v) ≡ 0
  link-none coords t v h lt lv e = triangle-link coords t v h lt lv ∙ ap (entry_if true) (ne_eqb (slice_index classes (vertex_number t v)) c e)

  pub others-link : (coords : Coords) (i : ℕ) → HasTriangles coords → i < columns coords n → 4 ≤ i % columns_each coords → slice_index (vertex_link coords n classes c) i ≡ 0
  others-link coords i h l high =
      entry-link coords i l ∙ ap (λ a. entry_if a (slice_index classes (vertex_number (i / columns_each coords) (i % columns_each coords)) == c)) (le-ltb (i % columns_each coords) 4 high)

  arcs-link : (coords : Coords) (t f v : ℕ) → HasTriangles coords → t < n → f < 4 → v < 4 → (v ≡ f → ⊥) → sum_by (slice_index (vertex_link coords n classes c)) (arc_columns coords t f v) ≡ member classes c (vertex_number t v)
  arcs-link coords t f v h lt lf lv off = arcs_alone coords n (vertex_link coords n classes c) h (λ i l high. others-link coords i h l high) t f v lt lf lv off ∙ triangle-link coords t v h lt lv

  link_admissible : (coords : Coords) → HasTriangles coords → IsAdmissible (clash_list coords n) (vertex_link coords n classes c)
  unfolding clash_list
  link_admissible coords h =
      All-from_recursion (λ (p : ℕ × ℕ). (slice_index (vertex_link coords n classes c) p.0 ≡ 0) ⊎ (slice_index (vertex_link coords n classes c) p.1 ≡ 0)) (clash_list coords n)
      (all_from (λ (p : ℕ × ℕ). (slice_index (vertex_link coords n classes c) p.0 ≡ 0) ⊎ (slice_index (vertex_link coords n classes c) p.1 ≡ 0)) (clash_list coords n) (λ p a.
      let m = filter-among (λ (p : ℕ × ℕ). nat_lt p.0 p.1 && clash_test coords p.0 p.1) p (pairs_of (below (columns coords n)) (below (columns coords n))) a in
      let ab = pairs-among {A = ℕ} {B = ℕ} p (below (columns coords n)) (below (columns coords n)) m.0 in
      inl (others-link coords p.0 h (below-among p.0 (columns coords n) ab.0) (no_triangle coords p.0 p.1 h (and_parts (nat_lt p.0 p.1) (clash_test coords p.0 p.1) m.1).1))))

module _ (s : Skeleton) (k : IsSkeleton s) (c : ℕ) (coords : Coords) (h : HasTriangles coords) where
  link_holds : (x : Face) (g : Gluing) (v : ℕ) → glue s.rows x ≡ Some g → v < 4 → (v ≡ x.face → ⊥) → Holds (matching coords x g v) (link_of s coords c)
  link_holds x g v e lv off =
      let i : IsGlued s.rows x g = glued_is s.rows x g k.table e in
      arcs-link (length s.rows) s.vertices.classes c coords x.tet x.face v h i.tet i.face lv off
      ∙ ap (λ d. entry_if true (d == c)) (class_across s.rows k.table s.vertices.classes s.vertices.count k.vertices x g v e lv off)
      ∙ sym (arcs-link (length s.rows) s.vertices.classes c coords g.tet (image g.perm x.face) (image g.perm v) h i.other_tet i.other_face (image_below g.perm v i.permutes lv) (images_apart g.perm v x.face i.permutes lv i.face off))

  pub link_surface : IsLinkSurface s coords (link_of s coords c)
  link_surface = record {
    surface = record {
      table = k.table;
      triangles = h;
      solves = rows_zero s.rows coords (link_of s coords c) k.table h
          (λ y v cy cv. let o = other_is (y.0).face v (among_contains v (others (y.0).face) cv) in link_holds y.0 y.1 v (pair_glued s.rows y (among_contains y (glued_pairs s.rows) cy)) o.0 o.1)
          (length-link (length s.rows) s.vertices.classes c coords);
      admissible = link_admissible (length s.rows) s.vertices.classes c coords h;
    };
    linking = (linking coords (link_of s coords c)).1 (λ i l q. others-link (length s.rows) s.vertices.classes c coords i h (subst (λ m. i < m) (length-link (length s.rows) s.vertices.classes c coords) l)
        (subst (λ m. m ≤ i % columns_each coords) (four_triangles coords h) (leb-true (triangles_each coords) (i % columns_each coords) q)));
  }

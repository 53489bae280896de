-- The pieces of a vertex link are the triangles of the class.
use Rattle.std.proofs.Common.{◌≡◌, ℕ, ◌+◌, ◌*◌, ◌<◌, ◌≤◌, List, length, refl, sym, ap, ◌∙◌, subst, arith, cond}
use Rattle.std.specs.Prelude.{◌==◌, sum_by, sum, slice_index}
use Rattle.table_definitions.specs.Lists.{below, times_in}
use Rattle.table_definitions.specs.Permutation.{others}
use Rattle.table_definitions.proofs.Listed.{below-among}
use Rattle.skeleton_definitions.specs.Links.{vertex_number}
use Rattle.surface_definitions.specs.Coordinates.{triangles_each, octagons_each, columns_each}
use Rattle.surface_definitions.specs.Characteristic.{arcs_in}
use Rattle.surface_definitions.specs.Pieces.{arcs_around}
use Rattle.surface_definitions.specs.declared.Coords.{Coords}
use Rattle.surface_definitions.proofs.ColumnCounts.{index_of_index, column_of_index}
use Rattle.surface_laws.specs.MatchingLaws.{HasTriangles}
use Rattle.surface_laws.proofs.ColumnKinds.{four_triangles}
use Rattle.surface_laws.proofs.Counting.{sum_by_same, sum_by-none, over_places, below_sum}
use Rattle.surface_laws.proofs.Solved.{other_is}
use Rattle.surface_quad_laws.specs.LinkLaws.{vertex_link}
use Rattle.surface_quad_laws.proofs.BareArcs.{IsBare, arcs_alone}
use Rattle.surface_quad_laws.proofs.VertexLinks.{member, length-link, triangle-link, others-link}
use Rattle.skeleton_laws.proofs.Sums.{sum_blocks}

module _ (n : ℕ) (classes : List ℕ) (c : ℕ) where
  module _ (coords : Coords) (h : HasTriangles coords) where
    abbrev link : List ℕ
    link = vertex_link coords n classes c

    pub link_bare : IsBare coords n (vertex_link coords n classes c)
    link_bare i l high = others-link n classes c coords i h l high

    pub arcs_around_vertex-link : (t f v : ℕ) → t < n → f < 4 → v < 4 → (v ≡ f → ⊥) → arcs_around coords link t f v ≡ member classes c (vertex_number t v)
    arcs_around_vertex-link t f v lt lf lv off = arcs_alone coords n link h link_bare t f v lt lf lv off ∙ triangle-link n classes c coords t v h lt lv

    -- the arcs in a face are those of the triangles at its vertices
    pub arcs_in-link : (t f : ℕ) → t < n → f < 4 → arcs_in coords (vertex_link coords n classes c) (record { tet = t; face = f }) ≡ sum_by (λ v. member classes c (vertex_number t v)) (others f)
    arcs_in-link t f lt lf = sum_by_same (arcs_around coords link t f) (λ v. member classes c (vertex_number t v)) (others f)
        (λ v a. let o = other_is f v a in arcs_around_vertex-link t f v lt lf o.0 o.1)

  -- the pieces in a tetrahedron
  four_alone : (f g : ℕ → ℕ) (r : ℕ) → ((v : ℕ) → v < 4 → f v ≡ g v) → ((j : ℕ) → j < r → f (4 + j) ≡ 0) → sum_by f (below (4 + r)) ≡ sum_by g (below 4)
  four_alone f g r same none =
      let first : sum_by f (below 4) ≡ sum_by g (below 4) = sum_by_same f g (below 4) (λ v a. same v (below-among v 4 a)) in
      let last : sum_by (λ j. f (4 + j)) (below r) ≡ 0 = sum_by-none (λ j. f (4 + j)) (below r) (λ j a. none j (below-among j r a)) in
      below_sum f 4 r ∙ (λ i. first i + last i) ∙ omega arith

  in_tet : (coords : Coords) → HasTriangles coords → (t : ℕ) → t < n
      → sum_by (λ j. slice_index (vertex_link coords n classes c) (columns_each coords * t + j)) (below (columns_each coords)) ≡ sum_by (λ v. member classes c (4 * t + v)) (below 4)
  in_tet coords h t lt =
      let all : triangles_each coords ≡ 4 = four_triangles coords h in
      let width : 4 + (3 + octagons_each coords) ≡ columns_each coords = omega (arith, all) in
      let further : (j : ℕ) → j < 3 + octagons_each coords → slice_index (vertex_link coords n classes c) (columns_each coords * t + (4 + j)) ≡ 0 = λ j lj.
      let inside : 4 + j < columns_each coords = omega (arith, lj, width) in
      let high : 4 ≤ 4 + j = omega arith in
      others-link n classes c coords (columns_each coords * t + (4 + j)) h (column_of_index coords n t (4 + j) lt inside)
      (subst (λ k. 4 ≤ k) (sym (index_of_index coords t (4 + j) inside)) high) in
      subst (λ m. sum_by (λ j. slice_index (vertex_link coords n classes c) (columns_each coords * t + j)) (below m) ≡ sum_by (λ v. member classes c (4 * t + v)) (below 4)) width
      (four_alone (λ j. slice_index (vertex_link coords n classes c) (columns_each coords * t + j)) (λ v. member classes c (4 * t + v)) (3 + octagons_each coords)
      (λ v lv. triangle-link n classes c coords t v h lt lv) further)

  -- the members of the class, by tetrahedra and their vertices
  pub members-sum : length classes ≡ 4 * n → sum_by (λ t. sum_by (λ v. member classes c (4 * t + v)) (below 4)) (below n) ≡ times_in classes c
  members-sum w =
      sym (sum_blocks (member classes c) 4 n) ∙ ap (λ m. sum_by (member classes c) (below m)) (sym w)
      ∙ over_places (λ m. cond (m == c) 1 0) (member classes c) 0 classes (λ i l. refl)

  pub pieces-link : (coords : Coords) → HasTriangles coords → length classes ≡ 4 * n → sum (vertex_link coords n classes c) ≡ times_in classes c
  pieces-link coords h w =
      sym (over_places (λ x. x) (slice_index (vertex_link coords n classes c)) 0 (vertex_link coords n classes c) (λ i l. refl))
      ∙ ap (λ m. sum_by (slice_index (vertex_link coords n classes c)) (below m)) (length-link n classes c coords)
      ∙ sum_blocks (slice_index (vertex_link coords n classes c)) (columns_each coords) n
      ∙ sum_by_same (λ t. sum_by (λ j. slice_index (vertex_link coords n classes c) (columns_each coords * t + j)) (below (columns_each coords))) (λ t. sum_by (λ v. member classes c (4 * t + v)) (below 4)) (below n)
      (λ t a. in_tet coords h t (below-among t n a))
      ∙ members-sum w

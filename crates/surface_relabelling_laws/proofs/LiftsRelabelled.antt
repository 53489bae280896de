-- The lift of a quad vector is carried to the lift of the relabelled quad vector.
use Rattle.std.proofs.Common.{◌≡◌, ℕ, zero, suc, ◌+◌, ◌*◌, ◌/◌, ◌%◌, ◌<◌, List, [], length, sym, ap, ◌∙◌, subst, subst₂, arith}
use Rattle.std.specs.Prelude.{nat_lt, slice_index}
use Rattle.std.specs.List.{slice_index_or}
use Rattle.std.proofs.lemmas.Bool.{lt-ltb}
use Rattle.cone_definitions.specs.Rows.{IsSolution}
use Rattle.cone_definitions.specs.Surfaces.{IsAdmissible}
use Rattle.table_definitions.specs.Permutation.{IsPermutationOfFour, image, preimage}
use Rattle.table_definitions.specs.Places.{vertex, SameVertex, IsJoined}
use Rattle.table_definitions.specs.Relabelling.{Relabelling, IsRelabelling, Carries}
use Rattle.table_definitions.proofs.Carried.{image_in_range, comes_from, perm_permutes}
use Rattle.table_definitions.proofs.Permutations.{image_below, preimage_below, image-preimage}
use Rattle.skeleton_definitions.specs.Skeleton.{Skeleton, IsSkeleton}
use Rattle.surface_definitions.specs.Coordinates.{columns, clash_list, tri_column, quad_column}
use Rattle.surface_definitions.specs.declared.Coords.TheVariants.{Standard, Quad}
use Rattle.surface_definitions.specs.Equations.{matching_rows}
use Rattle.surface_definitions.specs.Lift.{projected}
use Rattle.surface_vector_definitions.specs.Properties.{characteristic}
use Rattle.surface_laws.specs.LiftLaws.{IsLiftOf}
use Rattle.surface_laws.specs.PieceLaws.{IsSurface}
use Rattle.surface_laws.proofs.LiftLemmas.{lift_solves, lift_projects, quads_admissible}
use Rattle.surface_laws.proofs.Lifts.{one_lift}
use Rattle.surface_laws.proofs.Quads.{projected_at, length-projected}
use Rattle.surface_laws.proofs.Vertices.{vertex_is}
use Rattle.surface_quad_laws.specs.LinkLaws.{IsCanonical}
use Rattle.surface_quad_laws.proofs.Canonical.{canonical_lift, lift_canonical}
use Rattle.move_link_laws.proofs.Relabelled.{joined_under_it}
use Rattle.basic_lemmas.proofs.Truths.{if_true}
use Rattle.surface_equation_laws.proofs.LocalArcs.{placed}
use Rattle.surface_relabelling_laws.specs.Vectors.{place_under, relabelled_vector}
use Rattle.surface_relabelling_laws.proofs.Columns.{image_at, IsCarried, relabelled_is, one_image}
use Rattle.surface_relabelling_laws.proofs.BothWays.{matching_forth}
use Rattle.surface_relabelling_laws.proofs.Types.{placed_is}
use Rattle.surface_relabelling_laws.proofs.Efficiency.{euler_relabelled}

-- the images of triangles are those of their vertices, and the images of quads are the same in both coordinates
triangle_under : (p : List ℕ) (v : ℕ) → v < 4 → place_under Standard p v ≡ image p v
unfolding place_under
triangle_under p v l = if_true (nat_lt v 4) (image p v) _ (lt-ltb v 4 l)

quad_under : (p : List ℕ) (i : ℕ) → i < 3 → place_under Standard p (4 + i) ≡ 4 + place_under Quad p i
unfolding place_under
quad_under p zero l = omega arith
quad_under p (suc zero) l = omega arith
quad_under p (suc (suc zero)) l = omega arith
quad_under p (suc (suc (suc i))) l = absurd (omega arith)

module _ (s : Skeleton) (s' : Skeleton) (k : IsSkeleton s) (k' : IsSkeleton s') (by : Relabelling) (is : IsRelabelling (length s.rows) by) (carries : Carries by s.rows s'.rows) where
  abbrev n : ℕ
  n = length s.rows

  abbrev perm_at : ℕ → List ℕ
  perm_at i = slice_index_or by.perms (i / 4) []

  -- the number of the image of vertex i
  abbrev image_vertex : ℕ → ℕ
  image_vertex i = 4 * slice_index by.images (i / 4) + image (perm_at i) (i % 4)

  low_image : (i : ℕ) → i < 4 * length s.rows → image (slice_index_or by.perms (i / 4) []) (i % 4) < 4
  low_image i l =
      let lt : i / 4 < length s.rows = omega arith in
      let lv : i % 4 < 4 = omega arith in
      image_below (slice_index_or by.perms (i / 4) []) (perm_permutes (length s.rows) by is (i / 4) lt) (i % 4) lv

  image_vertex_below : (i : ℕ) → i < 4 * length s.rows → image_vertex i < 4 * length s'.rows
  image_vertex_below i l =
      let lt : i / 4 < length s.rows = omega arith in
      let a = image_in_range (length s.rows) by is (i / 4) lt in
      let b = low_image i l in
      let e = carries.same_length in
      omega arith

  -- images of vertices of one class are of one class
  vertices_forth : (i j : ℕ) → i < 4 * length s.rows → j < 4 * length s.rows → SameVertex s.rows i j → SameVertex s'.rows (image_vertex i) (image_vertex j)
  vertices_forth i j li lj joined =
      subst₂ (IsJoined s'.rows) (sym (vertex_is (slice_index by.images (i / 4)) (image (perm_at i) (i % 4)) (low_image i li))) (sym (vertex_is (slice_index by.images (j / 4)) (image (perm_at j) (j % 4)) (low_image j lj)))
      (joined_under_it s.rows s'.rows k.table by is carries (vertex i) (vertex j) (record { below = (let l = li in omega arith); place = ((let l = li in omega arith), tt) }) joined)

  -- each vertex is the image of one
  from_vertex : (j : ℕ) → j < 4 * length s'.rows → (i : ℕ) × (i < 4 * length s.rows) × (image_vertex i ≡ j)
  from_vertex j l =
      let t = comes_from (length s.rows) by is (j / 4) (let e = carries.same_length in omega arith) in
      let p : List ℕ = slice_index_or by.perms t.0 [] in
      let h : IsPermutationOfFour (slice_index_or by.perms t.0 []) = perm_permutes (length s.rows) by is t.0 t.1 in
      let lw : j % 4 < 4 = omega arith in
      let lv : preimage (slice_index_or by.perms t.0 []) (j % 4) < 4 = preimage_below p h (j % 4) lw in
      let lt : t.0 < length s.rows = t.1 in
      let tet : (4 * t.0 + preimage (slice_index_or by.perms t.0 []) (j % 4)) / 4 ≡ t.0 = omega arith in
      let place : (4 * t.0 + preimage (slice_index_or by.perms t.0 []) (j % 4)) % 4 ≡ preimage (slice_index_or by.perms t.0 []) (j % 4) = omega arith in
      let whole : 4 * (j / 4) + j % 4 ≡ j = omega arith in (
        4 * t.0 + preimage p (j % 4),
        omega arith,
        (λ m. 4 * slice_index by.images (tet m) + image (slice_index_or by.perms (tet m) []) (place m)) ∙ (λ m. 4 * t.2 m + image-preimage p h (j % 4) lw m) ∙ whole,
      )

  module _ (ys zs : List ℕ) (carried : IsCarried Standard (length s.rows) by ys zs) where
    triangle_carried : (i : ℕ) → i < 4 * length s.rows → slice_index zs (tri_column Standard (image_vertex i / 4) (image_vertex i % 4)) ≡ slice_index ys (tri_column Standard (i / 4) (i % 4))
    triangle_carried i l =
        let b : image (slice_index_or by.perms (i / 4) []) (i % 4) < 4 = low_image i l in
        let tet : image_vertex i / 4 ≡ slice_index by.images (i / 4) = omega arith in
        let place : image_vertex i % 4 ≡ image (perm_at i) (i % 4) = omega arith in
        let lv : i % 4 < 4 = omega arith in
        let lc : i % 4 < 7 = omega arith in
        let lt : i / 4 < length s.rows = omega arith in
        (λ m. slice_index zs (7 * tet m + place m)) ∙ (λ m. slice_index zs (7 * slice_index by.images (i / 4) + sym (triangle_under (perm_at i) (i % 4) lv) m)) ∙ carried.entries (i / 4) (i % 4) lt lc

    canonical_carried : IsCanonical s Standard ys → IsCanonical s' Standard zs
    canonical_carried canonical c' lc' =
        let m = (k'.vertices).none_empty c' lc' in
        let f = from_vertex m.0 m.1 in
        let c : ℕ = slice_index s.vertices.classes f.0 in
        let lc : slice_index s.vertices.classes f.0 < s.vertices.count = (k.vertices).in_range f.0 f.1 in
        let j = canonical c lc in
        let joined : SameVertex s.rows j.0 f.0 = ((k.vertices).together j.0 f.0 j.1 f.1).0 j.2 in
        let class : slice_index s'.vertices.classes (image_vertex j.0) ≡ c' =
        ((k'.vertices).together (image_vertex j.0) (image_vertex f.0) (image_vertex_below j.0 j.1) (image_vertex_below f.0 f.1)).1 (vertices_forth j.0 f.0 j.1 f.1 joined)
        ∙ ap (slice_index s'.vertices.classes) f.2 ∙ m.2 in
        (image_vertex j.0, image_vertex_below j.0 j.1, class, triangle_carried j.0 j.1 ∙ j.3)

    -- the quads are carried too
    quads_carried : (xs : List ℕ) → length xs ≡ columns Quad (length s.rows) → projected (length s.rows) ys ≡ xs → IsCarried Quad (length s.rows) by xs (projected (length s'.rows) zs)
    quads_carried xs w e = record {
      from_width = w;
      to_width = length-projected zs (length s'.rows) ∙ ap (λ m. 3 * m) carries.same_length;
      entries = λ t i lt li. entry t i lt li;
    }
      where
        entry : (t i : ℕ) → t < length s.rows → i < 3 → slice_index (projected (length s'.rows) zs) (image_at Quad by t i) ≡ slice_index xs (placed Quad t i)
        entry t i lt li =
            let p : List ℕ = slice_index_or by.perms t [] in
            let h = perm_permutes (length s.rows) by is t lt in
            let low : place_under Quad (slice_index_or by.perms t []) i < 3 = (placed_is Quad p i h li).below in
            let u : slice_index by.images t < length s'.rows = subst (λ m. slice_index by.images t < m) (sym carries.same_length) (image_in_range (length s.rows) by is t lt) in
            let lc : 4 + i < 7 = omega arith in
            let there : quad_column Standard (slice_index by.images t) (place_under Quad (slice_index_or by.perms t []) i) ≡ 7 * slice_index by.images t + (4 + place_under Quad (slice_index_or by.perms t []) i) = omega arith in
            let here : 7 * t + (4 + i) ≡ quad_column Standard t i = omega arith in
            projected_at zs (length s'.rows) (slice_index by.images t) (place_under Quad p i) u low
            ∙ ap (slice_index zs) there
            ∙ (λ m. slice_index zs (7 * slice_index by.images t + sym (quad_under p i li) m))
            ∙ carried.entries t (4 + i) lt lc
            ∙ ap (slice_index ys) here ∙ sym (projected_at ys (length s.rows) t i lt li) ∙ ap (λ (q : List ℕ). slice_index q (3 * t + i)) e

  pub lift_relabelled : (xs ys : List ℕ) → length xs ≡ columns Quad (length s.rows) → IsLiftOf s xs ys → IsLiftOf s' (relabelled_vector Quad by xs) (relabelled_vector Standard by ys)
  lift_relabelled xs ys w lift =
      let solution : IsSolution (columns Standard (length s.rows)) (matching_rows Standard s.rows) ys = lift_solves s.rows k.table s.vertices.classes s.vertices.count k.vertices xs ys lift in
      let zs : List ℕ = relabelled_vector Standard by ys in
      let c : IsCarried Standard (length s.rows) by ys (relabelled_vector Standard by ys) = relabelled_is Standard (length s.rows) by is ys solution.width in
      let there : IsSolution (columns Standard (length s'.rows)) (matching_rows Standard s'.rows) (relabelled_vector Standard by ys) =
      subst (λ m. IsSolution (columns Standard m) (matching_rows Standard s'.rows) zs) (sym carries.same_length) (matching_forth s.rows s'.rows by k.table is carries Standard tt ys zs c solution) in
      let quads : projected (length s'.rows) (relabelled_vector Standard by ys) ≡ relabelled_vector Quad by xs =
      one_image Quad (length s.rows) by is xs (projected (length s'.rows) zs) (relabelled_vector Quad by xs)
      (quads_carried ys zs c xs w (lift_projects s.rows k.table s.vertices.classes s.vertices.count k.vertices xs ys w lift)) (relabelled_is Quad (length s.rows) by is xs w) in
      subst (λ (q : List ℕ). IsLiftOf s' q (relabelled_vector Standard by ys)) quads
      (canonical_lift s' k' zs there (canonical_carried ys zs c (lift_canonical s k xs ys lift)))

  -- the lift of an admissible quad vector is a surface
  pub lift_surface : (xs ys : List ℕ) → length xs ≡ columns Quad (length s.rows) → IsAdmissible (clash_list Quad (length s.rows)) xs → IsLiftOf s xs ys → IsSurface s.rows Standard ys
  lift_surface xs ys w ok lift = record {
    table = k.table;
    triangles = tt;
    solves = lift_solves s.rows k.table s.vertices.classes s.vertices.count k.vertices xs ys lift;
    admissible = quads_admissible (length s.rows) xs ys (lift_projects s.rows k.table s.vertices.classes s.vertices.count k.vertices xs ys w lift) ok;
  }

  -- each lift of a relabelled quad vector is the relabelled vector of the lift
  pub same_lift : (xs ys zs : List ℕ) → length xs ≡ columns Quad (length s.rows) → IsLiftOf s xs ys → IsLiftOf s' (relabelled_vector Quad by xs) zs → zs ≡ relabelled_vector Standard by ys
  same_lift xs ys zs w lift other =
      one_lift s'.rows k'.table s'.vertices.classes s'.vertices.count k'.vertices (relabelled_vector Quad by xs) zs (relabelled_vector Standard by ys) other (lift_relabelled xs ys w lift)

  -- the lift of a relabelled quad vector has the Euler characteristic of the lift
  pub lifted_euler : (xs ys zs : List ℕ) → length xs ≡ columns Quad (length s.rows) → IsAdmissible (clash_list Quad (length s.rows)) xs → IsLiftOf s xs ys → IsLiftOf s' (relabelled_vector Quad by xs) zs
      → characteristic s' Standard zs ≡ characteristic s Standard ys
  lifted_euler xs ys zs w ok lift other =
      ap (characteristic s' Standard) (same_lift xs ys zs w lift other) ∙ euler_relabelled s s' k k' by is carries Standard tt ys (lift_surface xs ys w ok lift)

-- Two families of heights of a vertex class differ by a constant, and the numbers of triangles of a solution are
-- heights.
use Rattle.std.proofs.Common.{◌≡◌, ℕ, ◌+◌, ◌*◌, ◌/◌, ◌%◌, ◌<◌, ℤ, pos, ◌-ℤ◌, List, [], ◌∷◌, length, Some, refl, sym, ap, ◌∙◌, subst, arith}
use Rattle.std.specs.Prelude.{slice_index}
use Rattle.std.proofs.lemmas.Int.{ints}
use Rattle.table_definitions.specs.Permutation.{image}
use Rattle.table_definitions.specs.Table.{Face}
use Rattle.table_definitions.specs.Places.{Place, across, vertex, SameVertex}
use Rattle.table_definitions.proofs.ChainLaws.{kept_along}
use Rattle.table_definitions.proofs.PermutationLaws.{image_below, images_apart}
use Rattle.table_definitions.proofs.Faces.{face_at}
use Rattle.skeleton_definitions.specs.Links.{vertex_number}
use Rattle.skeleton_definitions.specs.Skeleton.{Skeleton, IsSkeleton}
use Rattle.surface_definitions.specs.Coordinates.{tri_column, quad_column, keeping}
use Rattle.surface_definitions.specs.declared.Coords.TheVariants.{Standard, Quad}
use Rattle.surface_definitions.specs.Equations.{Holds, matching}
use Rattle.surface_definitions.specs.Lift.{projected}
use Rattle.surface_laws.specs.LiftLaws.{AreHeights, triangle_at}
use Rattle.surface_laws.proofs.Glued.{IsGlued, glued_is}
use Rattle.surface_laws.proofs.Quads.{projected_at}
use Rattle.surface_laws.proofs.Solved.{solved}
use Rattle.surface_laws.proofs.Turns.{keeping_below}
use Rattle.surface_laws.proofs.Vertices.{one_vertex, number-vertex, IsCrossed, crossed_is, class_across}
use Rattle.surface_laws.proofs.Heights.{from_holds}
use Rattle.surface_quad_laws.specs.SolutionLaws.{IsStandardSolution}

differ_on : (a b h h' k k' q q' : ℕ) → a + k ≡ b + h → h + q ≡ h' + q' → k + q ≡ k' + q' → a + k' ≡ b + h'
differ_on a b h h' k k' q q' d e f = omega arith

module _ (s : Skeleton) (k : IsSkeleton s) where
  abbrev n : ℕ
  n = length s.rows

  abbrev class_of : ℕ → ℕ
  class_of i = slice_index s.vertices.classes i

  module _ (xs : List ℕ) (c : ℕ) (h m : ℕ → ℕ) (one : AreHeights s xs c h) (other : AreHeights s xs c m) where
    -- the heights at a vertex differ by as much as a and b
    record DifferAt (a b : ℕ) (p : Place) : Type 0 where
      v : ℕ
      is : p.vertices ≡ v ∷ []
      below : v < 4
      chosen : class_of (vertex_number p.tet v) ≡ c
      differ : a + m (vertex_number p.tet v) ≡ b + h (vertex_number p.tet v)

    differ_across : (a b : ℕ) (p : Place) (f : ℕ) (q : Place) → DifferAt a b p → across s.rows p f ≡ Some q → DifferAt a b q
    differ_across a b p f q d e =
        let w : IsCrossed s.rows p.tet d.v f q = crossed_is s.rows p.tet d.v f q (ap (λ (vs : List ℕ). across s.rows (record { tet = p.tet; vertices = vs }) f) (sym d.is) ∙ e) in
        let x : Face = face_at p.tet f in
        let i : IsGlued s.rows x w.g = glued_is s.rows x w.g k.table w.glued in
        let u : ℕ = image w.g.perm d.v in
        let to : DifferAt a b (one_vertex w.g.tet u) = record {
          v = u;
          is = refl;
          below = image_below w.g.perm d.v i.permutes d.below;
          chosen = sym (class_across s.rows k.table s.vertices.classes s.vertices.count k.vertices x w.g d.v w.glued d.below w.off) ∙ d.chosen;
          differ = differ_on a b (h (vertex_number p.tet d.v)) (h (vertex_number w.g.tet u)) (m (vertex_number p.tet d.v)) (m (vertex_number w.g.tet u))
              (slice_index xs (quad_column Quad p.tet (keeping d.v f))) (slice_index xs (quad_column Quad w.g.tet (keeping u (image w.g.perm f))))
              d.differ (one x w.g d.v w.glued d.below w.off d.chosen) (other x w.g d.v w.glued d.below w.off d.chosen);
        } in
        subst (DifferAt a b) w.is to

    pub heights_differ : (i j : ℕ) → i < 4 * n → j < 4 * n → class_of i ≡ c → class_of j ≡ c → h i + m j ≡ m i + h j
    heights_differ i j li lj ci cj =
        let joined : SameVertex s.rows i j = ((k.vertices).together i j li lj).0 (ci ∙ sym cj) in
        let flip : h i + m i ≡ m i + h i = omega arith in
        let start : DifferAt (h i) (m i) (vertex i) = record {
          v = i % 4;
          is = refl;
          below = omega arith;
          chosen = ap (slice_index s.vertices.classes) (number-vertex i) ∙ ci;
          differ = ap (λ o. h i + m o) (number-vertex i) ∙ flip ∙ ap (λ o. m i + h o) (sym (number-vertex i));
        } in
        let end : DifferAt (h i) (m i) (vertex j) = kept_along s.rows (DifferAt (h i) (m i)) (differ_across (h i) (m i)) joined.0 (vertex i) (vertex j) start joined.1 in
        let v : end.v ≡ j % 4 = sym (ap (λ (vs : List ℕ). slice_index vs 0) end.is) in
        let at : vertex_number (j / 4) end.v ≡ j = ap (vertex_number (j / 4)) v ∙ number-vertex j in
        ap (λ o. h i + m o) (sym at) ∙ end.differ ∙ ap (λ o. m i + h o) at

  pub triangle_is : (ys : List ℕ) (t v : ℕ) → v < 4 → triangle_at ys (vertex_number t v) ≡ slice_index ys (tri_column Standard t v)
  triangle_is ys t v l =
      let d : vertex_number t v / 4 ≡ t = omega arith in
      let r : vertex_number t v % 4 ≡ v = omega arith in
      λ i. slice_index ys (tri_column Standard (d i) (r i))

  -- the quads of a standard vector, in quad coordinates
  pub quad_alone : (ys : List ℕ) (t j : ℕ) → t < n → j < 3 → slice_index (projected n ys) (quad_column Quad t j) ≡ slice_index ys (quad_column Standard t j)
  quad_alone ys t j lt lj = let e : quad_column Quad t j ≡ 3 * t + j = omega arith in ap (slice_index (projected n ys)) e ∙ projected_at ys n t j lt lj

  pub solution_heights : (xs ys : List ℕ) (c : ℕ) → IsStandardSolution s ys → projected n ys ≡ xs → AreHeights s xs c (triangle_at ys)
  solution_heights xs ys c solution e = subst (λ ws. AreHeights s ws c (triangle_at ys)) e (λ x g v glued lv off ch.
      let i : IsGlued s.rows x g = glued_is s.rows x g k.table glued in
      let u : ℕ = image g.perm v in
      let f : ℕ = image g.perm x.face in
      let lu : u < 4 = image_below g.perm v i.permutes lv in
      let q : keeping v x.face < 3 = keeping_below v x.face lv i.face off in
      let q' : keeping u f < 3 = keeping_below u f lu i.other_face (images_apart g.perm v x.face i.permutes lv i.face off) in
      let holds : Holds (matching Standard x g v) ys = solved s.rows Standard ys k.table tt solution x g v glued lv off in
      from_holds (slice_index ys (tri_column Standard x.tet v)) (slice_index ys (quad_column Standard x.tet (keeping v x.face)))
      (slice_index ys (tri_column Standard g.tet u)) (slice_index ys (quad_column Standard g.tet (keeping u f)))
      (triangle_at ys (vertex_number x.tet v)) (slice_index (projected n ys) (quad_column Quad x.tet (keeping v x.face)))
      (triangle_at ys (vertex_number g.tet u)) (slice_index (projected n ys) (quad_column Quad g.tet (keeping u f)))
      (triangle_is ys x.tet v lv) (quad_alone ys x.tet (keeping v x.face) i.tet q) (triangle_is ys g.tet u lu) (quad_alone ys g.tet (keeping u f) i.other_tet q') holds)

  -- solutions with the same quads
  pub triangles_differ : (ys zs : List ℕ) (c : ℕ) → IsStandardSolution s ys → IsStandardSolution s zs → projected n ys ≡ projected n zs → (i j : ℕ) → i < 4 * n → j < 4 * n → class_of i ≡ c → class_of j ≡ c
      → triangle_at ys i + triangle_at zs j ≡ triangle_at zs i + triangle_at ys j
  triangles_differ ys zs c one other e = heights_differ (projected n zs) c (triangle_at ys) (triangle_at zs) (solution_heights (projected n zs) ys c one e) (solution_heights (projected n zs) zs c other refl)

  pub one_integer : (ys zs : List ℕ) (c : ℕ) → IsStandardSolution s ys → IsStandardSolution s zs → projected n ys ≡ projected n zs → c < s.vertices.count
      → (d : ℤ) × ((i : ℕ) → i < 4 * n → class_of i ≡ c → pos (triangle_at ys i) -ℤ pos (triangle_at zs i) ≡ d)
  one_integer ys zs c one other e lc =
      let j = (k.vertices).none_empty c lc in
      (pos (triangle_at ys j.0) -ℤ pos (triangle_at zs j.0), λ i li ci. as_integers (triangle_at ys i) (triangle_at zs i) (triangle_at ys j.0) (triangle_at zs j.0) (triangles_differ ys zs c one other e i j.0 li j.1 ci j.2))
    where
      as_integers : (a b a' b' : ℕ) → a + b' ≡ b + a' → pos a -ℤ pos b ≡ pos a' -ℤ pos b'
      as_integers a b a' b' e = omega (arith, ints)

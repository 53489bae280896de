-- A quad vector has at most one lift.
use Rattle.std.proofs.Common.{◌≡◌, ℕ, ◌+◌, ◌*◌, ◌/◌, ◌%◌, ◌-◌, ◌<◌, List, [], ◌∷◌, length, Some, inl, inr, refl, sym, ap, ◌∙◌, subst, arith, ext_get_or}
use Rattle.std.specs.Prelude.{slice_index}
use Rattle.std.proofs.lemmas.Bool.{cases_lt}
use Rattle.table_definitions.specs.Permutation.{image}
use Rattle.table_definitions.specs.Table.{Gluing, Row, Face, glue, IsTable}
use Rattle.table_definitions.specs.Classes.{IsNumbering}
use Rattle.table_definitions.specs.Places.{Place, across, vertex, SameVertex}
use Rattle.table_definitions.proofs.ChainLaws.{kept_along}
use Rattle.table_definitions.proofs.PermutationLaws.{image_below, images_apart}
use Rattle.table_definitions.proofs.Faces.{face_at}
use Rattle.skeleton_definitions.specs.Links.{vertex_number}
use Rattle.surface_definitions.specs.Coordinates.{tri_column, quad_column, keeping}
use Rattle.surface_definitions.specs.declared.Coords.TheVariants.{Standard}
use Rattle.surface_definitions.specs.Equations.{Holds, matching}
use Rattle.surface_definitions.specs.Lift.{projected, IsLiftAt, IsLift}
use Rattle.surface_laws.proofs.Glued.{IsGlued, glued_is}
use Rattle.surface_laws.proofs.Turns.{keeping_below}
use Rattle.surface_laws.proofs.Matched.{matched}
use Rattle.surface_laws.proofs.Quads.{projected_at}
use Rattle.surface_laws.proofs.Vertices.{one_vertex, number-vertex, IsCrossed, crossed_is, class_across}
use Rattle.surface_laws.specs.LiftLaws.{triangle_at}

differ_on : (a b y y' z z' q q' r r' : ℕ) → a + z ≡ b + y → 0 + y + q ≡ 0 + y' + q' → 0 + z + r ≡ 0 + z' + r' → q ≡ r → q' ≡ r' → a + z' ≡ b + y'
differ_on a b y y' z z' q q' r r' d e f s t = omega arith

-- two heights that differ by the same number at three vertices, and are each 0 at one of these, are equal
same_heights : (y z y1 z1 y2 z2 : ℕ) → y + z1 ≡ z + y1 → y + z2 ≡ z + y2 → y1 ≡ 0 → z2 ≡ 0 → y ≡ z
same_heights y z y1 z1 y2 z2 d e a b = omega arith

module _ (rows : List Row) (table : IsTable rows) (classes : List ℕ) (count : ℕ) (numbered : IsNumbering (4 * length rows) (SameVertex rows) classes count) (xs : List ℕ) where
  InClass : ℕ → ℕ → ℕ → Type 0
  InClass c t v = slice_index classes (vertex_number t v) ≡ c

  -- at a lift each equation of its class holds, read from either side
  pub lift_matched : (c : ℕ) (ys : List ℕ) → IsLiftAt rows classes xs c ys → (x : Face) (g : Gluing) (v : ℕ) → glue rows x ≡ Some g → v < 4 → (v ≡ x.face → ⊥)
      → slice_index classes (vertex_number x.tet v) ≡ c → Holds (matching Standard x g v) ys
  unfolding InClass
  lift_matched c ys l x g v e lv off h =
      matched rows Standard ys table (InClass c) (λ x g v e lv off k. sym (class_across rows table classes count numbered x g v e lv off) ∙ k) l.holds x g v e lv off h

  pub quads_same : (ys zs : List ℕ) → projected (length rows) ys ≡ xs → projected (length rows) zs ≡ xs → (t k : ℕ) → t < length rows → k < 3 → slice_index ys (quad_column Standard t k) ≡ slice_index zs (quad_column Standard t k)
  quads_same ys zs a b t k lt lk =
      sym (projected_at ys (length rows) t k lt lk) ∙ ap (λ w. slice_index w (3 * t + k)) (a ∙ sym b) ∙ projected_at zs (length rows) t k lt lk

  module _ (c : ℕ) (ys zs : List ℕ) (one : IsLiftAt rows classes xs c ys) (other : IsLiftAt rows classes xs c zs) where
    -- the heights at a vertex differ by as much as a and b
    record DifferAt (a b : ℕ) (p : Place) : Type 0 where
      v : ℕ
      is : p.vertices ≡ v ∷ []
      below : v < 4
      chosen : slice_index classes (vertex_number p.tet v) ≡ c
      differ : a + slice_index zs (tri_column Standard p.tet v) ≡ b + slice_index ys (tri_column Standard p.tet v)

    differ_across : (a b : ℕ) (p : Place) (f : ℕ) (q : Place) → DifferAt a b p → across rows p f ≡ Some q → DifferAt a b q
    differ_across a b p f q d e =
        let s : IsCrossed rows p.tet d.v f q = crossed_is rows p.tet d.v f q (ap (λ (vs : List ℕ). across rows (record { tet = p.tet; vertices = vs }) f) (sym d.is) ∙ e) in
        let x : Face = face_at p.tet f in
        let i : IsGlued rows x s.g = glued_is rows x s.g table s.glued in
        let w : ℕ = image s.g.perm d.v in
        let lw : w < 4 = image_below s.g.perm d.v i.permutes d.below in
        let lk : keeping d.v f < 3 = keeping_below d.v f d.below i.face s.off in
        let lk' : keeping w (image s.g.perm f) < 3 = keeping_below w (image s.g.perm f) lw i.other_face (images_apart s.g.perm d.v f i.permutes d.below i.face s.off) in
        let at_ys : Holds (matching Standard x s.g d.v) ys = lift_matched c ys one x s.g d.v s.glued d.below s.off d.chosen in
        let at_zs : Holds (matching Standard x s.g d.v) zs = lift_matched c zs other x s.g d.v s.glued d.below s.off d.chosen in
        let to : DifferAt a b (one_vertex s.g.tet w) = record {
          v = w;
          is = refl;
          below = lw;
          chosen = sym (class_across rows table classes count numbered x s.g d.v s.glued d.below s.off) ∙ d.chosen;
          differ = differ_on a b (slice_index ys (tri_column Standard p.tet d.v)) (slice_index ys (tri_column Standard s.g.tet w)) (slice_index zs (tri_column Standard p.tet d.v)) (slice_index zs (tri_column Standard s.g.tet w))
              (slice_index ys (quad_column Standard p.tet (keeping d.v f))) (slice_index ys (quad_column Standard s.g.tet (keeping w (image s.g.perm f))))
              (slice_index zs (quad_column Standard p.tet (keeping d.v f))) (slice_index zs (quad_column Standard s.g.tet (keeping w (image s.g.perm f))))
              d.differ at_ys at_zs
              (quads_same ys zs one.quads_are other.quads_are p.tet (keeping d.v f) i.tet lk)
              (quads_same ys zs one.quads_are other.quads_are s.g.tet (keeping w (image s.g.perm f)) i.other_tet lk');
        } in
        subst (DifferAt a b) s.is to

    differ_along : (i j : ℕ) → i < 4 * length rows → j < 4 * length rows → slice_index classes i ≡ c → slice_index classes j ≡ c → triangle_at ys i + triangle_at zs j ≡ triangle_at zs i + triangle_at ys j
    differ_along i j li lj ci cj =
        let joined : SameVertex rows i j = (numbered.together i j li lj).0 (ci ∙ sym cj) in
        let low : i % 4 < 4 = omega arith in
        let flip : triangle_at ys i + triangle_at zs i ≡ triangle_at zs i + triangle_at ys i = omega arith in
        let start : DifferAt (triangle_at ys i) (triangle_at zs i) (vertex i) = record {
          v = i % 4;
          is = refl;
          below = low;
          chosen = ap (slice_index classes) (number-vertex i) ∙ ci;
          differ = flip;
        } in
        let end : DifferAt (triangle_at ys i) (triangle_at zs i) (vertex j) = kept_along rows (DifferAt (triangle_at ys i) (triangle_at zs i)) (differ_across (triangle_at ys i) (triangle_at zs i)) joined.0 (vertex i) (vertex j) start joined.1 in
        let v : end.v ≡ j % 4 = sym (ap (λ (vs : List ℕ). slice_index vs 0) end.is) in
        subst (λ w. triangle_at ys i + slice_index zs (tri_column Standard (j / 4) w) ≡ triangle_at zs i + slice_index ys (tri_column Standard (j / 4) w)) v end.differ

    pub same_triangles : (i : ℕ) → i < 4 * length rows → slice_index classes i ≡ c → triangle_at ys i ≡ triangle_at zs i
    same_triangles i li ci =
        let a : ℕ = (one.least).0 in
        let b : ℕ = (other.least).0 in
        let la : a < 4 * length rows = let l = (one.least).1 in omega (arith, numbered.one_each) in
        let lb : b < 4 * length rows = let l = (other.least).1 in omega (arith, numbered.one_each) in
        same_heights (triangle_at ys i) (triangle_at zs i) (triangle_at ys a) (triangle_at zs a) (triangle_at ys b) (triangle_at zs b)
        (differ_along i a li la ci (one.least).2) (differ_along i b li lb ci (other.least).2) (one.least).3 (other.least).3

  pub one_lift : (ys zs : List ℕ) → IsLift rows classes count xs ys → IsLift rows classes count xs zs → ys ≡ zs
  one_lift ys zs f g = ext_get_or 0 ys zs (f.width ∙ sym g.width) (λ i l. at_column i (omega (arith, f.width)))
    where
      at_column : (i : ℕ) → i < 7 * length rows → slice_index ys i ≡ slice_index zs i
      at_column i l =
          let t : ℕ = i / 7 in
          let k : ℕ = i % 7 in
          let lt : t < length rows = omega arith in
          let whole : 7 * t + k ≡ i = omega arith in
          elim (cases_lt k 4) [
            | inl low ↦ (let n : ℕ = vertex_number t k in
                let ln : n < 4 * length rows = omega arith in
                let dn : n / 4 ≡ t = omega arith in
                let mn : n % 4 ≡ k = omega arith in
                let c : ℕ = slice_index classes n in
                let lc : c < count = numbered.in_range n ln in
                let same : triangle_at ys n ≡ triangle_at zs n = same_triangles c ys zs (f.each c lc) (g.each c lc) n ln refl in
                let at : tri_column Standard (n / 4) (n % 4) ≡ i = (λ j. tri_column Standard (dn j) (mn j)) ∙ whole in
                ap (slice_index ys) (sym at) ∙ same ∙ ap (slice_index zs) at)
            | inr high ↦ (let lk : k - 4 < 3 = omega arith in
                let n : ℕ = vertex_number t 0 in
                let ln : n < 4 * length rows = omega arith in
                let c : ℕ = slice_index classes n in
                let lc : c < count = numbered.in_range n ln in
                let at : quad_column Standard t (k - 4) ≡ i = omega arith in
                ap (slice_index ys) (sym at) ∙ quads_same ys zs (f.each c lc).quads_are (g.each c lc).quads_are t (k - 4) lt lk ∙ ap (slice_index zs) at)
          ]

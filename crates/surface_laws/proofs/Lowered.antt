-- Heights above the least height of each class are a lift.
use Rattle.std.proofs.Common.{◌≡◌, ℕ, ◌+◌, ◌*◌, ◌-◌, ◌<◌, ◌≤◌, List, length, sym, ap, ◌∙◌, arith}
use Rattle.std.specs.Prelude.{slice_index}
use Rattle.table_definitions.specs.Permutation.{image}
use Rattle.table_definitions.proofs.PermutationLaws.{image_below}
use Rattle.skeleton_definitions.specs.Links.{vertex_number}
use Rattle.skeleton_definitions.specs.Skeleton.{Skeleton, IsSkeleton}
use Rattle.surface_definitions.specs.declared.Coords.TheVariants.{Quad}
use Rattle.surface_definitions.specs.Coordinates.{quad_column, keeping}
use Rattle.surface_laws.specs.LiftLaws.{AreHeights, IsLiftOf}
use Rattle.surface_laws.proofs.Glued.{IsGlued, glued_is}
use Rattle.surface_laws.proofs.Vertices.{class_across}
use Rattle.surface_laws.proofs.Heights.{vector_of, length-vector, heights_lift, lowered}

-- the least height of class c
pub record IsLow (s : Skeleton) (h : ℕ → ℕ) (c low : ℕ) : Type 0 where
  pub member : ℕ
  pub within : member < 4 * length s.rows
  pub in_class : slice_index s.vertices.classes member ≡ c
  pub reached : h member ≡ low
  pub least : (i : ℕ) → i < 4 * length s.rows → slice_index s.vertices.classes i ≡ c → low ≤ h i

module _ (s : Skeleton) (k : IsSkeleton s) (xs : List ℕ) (w : length xs ≡ 3 * length s.rows) (h low : ℕ → ℕ) where
  abbrev class_of : ℕ → ℕ
  class_of i = slice_index s.vertices.classes i

  -- the height above the least of the class
  abbrev pub above : ℕ → ℕ
  above i = h i - low (class_of i)

  above_heights : (c : ℕ) → IsLow s h c (low c) → AreHeights s xs c h → AreHeights s xs c above
  above_heights c m a x g v e lv off ch =
      let into : IsGlued s.rows x g = glued_is s.rows x g k.table e in
      let u : ℕ = image g.perm v in
      let f : ℕ = image g.perm x.face in
      let lu : u < 4 = image_below g.perm v into.permutes lv in
      let li : vertex_number x.tet v < 4 * length s.rows = omega (arith, into.tet) in
      let lj : vertex_number g.tet u < 4 * length s.rows = omega (arith, into.other_tet) in
      let cu : class_of (vertex_number g.tet u) ≡ c = sym (class_across s.rows k.table s.vertices.classes s.vertices.count k.vertices x g v e lv off) ∙ ch in
      ap (λ d. (h (vertex_number x.tet v) - low d) + slice_index xs (quad_column Quad x.tet (keeping v x.face))) ch
      ∙ lowered (h (vertex_number x.tet v)) (h (vertex_number g.tet u)) (slice_index xs (quad_column Quad x.tet (keeping v x.face))) (slice_index xs (quad_column Quad g.tet (keeping u f))) (low c)
      (m.least (vertex_number x.tet v) li ch) (m.least (vertex_number g.tet u) lj cu) (a x g v e lv off ch)
      ∙ ap (λ d. (h (vertex_number g.tet u) - low d) + slice_index xs (quad_column Quad g.tet (keeping u f))) (sym cu)

  pub lowered_lift : ((c : ℕ) → c < s.vertices.count → AreHeights s xs c h) → ((c : ℕ) → c < s.vertices.count → IsLow s h c (low c)) → IsLiftOf s xs (vector_of (length s.rows) above xs)
  lowered_lift heights lows = record {
    width = length-vector (length s.rows) above xs;
    each = λ c lc.
        let m : IsLow s h c (low c) = lows c lc in
        let zero_there : above m.member ≡ 0 = ap (λ d. h m.member - low d) m.in_class ∙ ap (λ a. a - low c) m.reached ∙ omega arith in
        heights_lift s k xs w c above (above_heights c m (heights c lc)) m.member m.within m.in_class zero_there;
  }

-- A surface and its image have as many points, and so the same Euler characteristic.
use Rattle.std.proofs.Common.{◌≡◌, ℕ, ◌+◌, ◌*◌, ◌/◌, ◌%◌, ◌<◌, List, length, inl, inr, sym, ap, ◌∙◌, subst, arith}
use Rattle.std.specs.Prelude.{slice_index}
use Rattle.table_definitions.specs.Classes.{IsNumbering, least}
use Rattle.table_definitions.specs.Lists.{below}
use Rattle.table_definitions.specs.Permutation.{IsPermutationOfFour, image}
use Rattle.table_definitions.specs.Table.{Row}
use Rattle.table_definitions.specs.Places.{Place, edge, IsJoined, SameEdge}
use Rattle.table_definitions.specs.Relabelling.{Relabelling, IsRelabelling, Carries}
use Rattle.table_definitions.proofs.ChainLaws.{joined_refl}
use Rattle.table_definitions.proofs.ClassLaws.{least_class}
use Rattle.table_definitions.proofs.DistinctLists.{apart_below}
use Rattle.table_definitions.proofs.Listed.{below-among}
use Rattle.table_definitions.proofs.PermutationLaws.{images_apart}
use Rattle.table_definitions.proofs.Permutations.{image_below}
use Rattle.table_definitions.proofs.TableLaws.{Among-below}
use Rattle.skeleton_definitions.specs.Links.{euler_of}
use Rattle.skeleton_definitions.specs.Skeleton.{Skeleton, IsSkeleton}
use Rattle.skeleton_class_laws.specs.Crossings.{pair}
use Rattle.skeleton_class_laws.proofs.Cases.{low, high}
use Rattle.skeleton_class_laws.proofs.EdgeTies.{edge_pair}
use Rattle.surface_definitions.specs.Characteristic.{weight, points}
use Rattle.surface_definitions.specs.declared.Coords.{Coords}
use Rattle.surface_definitions.specs.Pieces.{arcs_around}
use Rattle.surface_vector_definitions.specs.Properties.{characteristic}
use Rattle.surface_laws.specs.PieceLaws.{IsSurface}
use Rattle.surface_agreement_laws.proofs.EdgeArcs.{face_by}
use Rattle.surface_euler_laws.proofs.Four.{Four}
use Rattle.surface_euler_laws.proofs.Widths.{fourth_by, four_by, width_is}
use Rattle.surface_relabelling_laws.proofs.Columns.{IsCarried}
use Rattle.surface_relabelling_laws.proofs.Members.{AreImages, images_sum}
use Rattle.surface_relabelling_laws.proofs.Arcs.{arcs_carried}
use Rattle.surface_relabelling_laws.proofs.Euler.{pieces_carried, arcs_same}
use Rattle.surface_relabelling_laws.proofs.Edges.{Along, perm_of, image_edge, image_either, image_ends, image_edge_below, edge_tet, perm_is, edges_forth, edges_back, from_edge}

four_under : (p : List ℕ) (v u f w : ℕ) → IsPermutationOfFour p → Four v u f w → Four (image p v) (image p u) (image p f) (image p w)
four_under p v u f w h a = record {
  lv = image_below p h v a.lv;
  lu = image_below p h u a.lu;
  lf = image_below p h f a.lf;
  lw = image_below p h w a.lw;
  vu = images_apart p v u h a.lv a.lu a.vu;
  vf = images_apart p v f h a.lv a.lf a.vf;
  vw = images_apart p v w h a.lv a.lw a.vw;
  uf = images_apart p u f h a.lu a.lf a.uf;
  uw = images_apart p u w h a.lu a.lw a.uw;
  fw = images_apart p f w h a.lf a.lw a.fw;
}

four_of : (i : ℕ) → Four (low (i % 6)) (high (i % 6)) (face_by (i % 6)) (fourth_by (i % 6))
four_of i = let l : i % 6 < 6 = omega arith in four_by (i % 6) l

-- the surface crosses joined edges equally often
module _ (rows : List Row) (coords : Coords) (xs : List ℕ) (s : IsSurface rows coords xs) where
  abbrev width_of : ℕ → ℕ
  width_of i = arcs_around coords xs (i / 6) (face_by (i % 6)) (low (i % 6)) + arcs_around coords xs (i / 6) (face_by (i % 6)) (high (i % 6))

  weight_along : (i j : ℕ) → i < 6 * length rows → SameEdge rows i j → weight coords xs j ≡ width_of i
  weight_along i j l same =
      let lt : i / 6 < length rows = omega arith in
      width_is rows coords xs s (i / 6) (low (i % 6)) (high (i % 6)) (face_by (i % 6)) (fourth_by (i % 6)) j lt (four_of i)
      (subst (λ (p : Place). Along rows p (edge j)) (edge_pair i) same)

  pub weight_itself : (i : ℕ) → i < 6 * length rows → weight coords xs i ≡ width_of i
  weight_itself i l = weight_along i i l (inl (joined_refl rows (edge i)))

  pub weight_same : (i j : ℕ) → i < 6 * length rows → SameEdge rows i j → weight coords xs j ≡ weight coords xs i
  weight_same i j l same = weight_along i j l same ∙ sym (weight_itself i l)

module _ (old : List Row) (new : List Row) (by : Relabelling) (is : IsRelabelling (length old) by) (carries : Carries by old new) (coords : Coords)
    (xs ys : List ℕ) (carried : IsCarried coords (length old) by xs ys) (s : IsSurface old coords xs) (s' : IsSurface new coords ys) where
  weight_image : (i : ℕ) → i < 6 * length old → weight coords ys (image_edge by i) ≡ weight coords xs i
  weight_image i l =
      let e = image_ends old new s.table s'.table by is carries i l in
      let f = four_of i in
      let p : List ℕ = perm_of by i in
      let lt = edge_tet old new s.table s'.table by is carries i l in
      let h : IsPermutationOfFour (perm_of by i) = perm_is old new s.table s'.table by is carries i l in
      width_is new coords ys s' (slice_index by.images (i / 6)) (image p (low (i % 6))) (image p (high (i % 6))) (image p (face_by (i % 6))) (image p (fourth_by (i % 6))) (image_edge by i) e.tet (four_under p (low (i % 6)) (high (i % 6)) (face_by (i % 6)) (fourth_by (i % 6)) h f)
      (elim (image_either old new s.table s'.table by is carries i l) [
        | inl q ↦ inl (subst (IsJoined new (pair (slice_index by.images (i / 6)) (image p (low (i % 6))) (image p (high (i % 6))))) q (joined_refl new (pair (slice_index by.images (i / 6)) (image p (low (i % 6))) (image p (high (i % 6))))))
        | inr q ↦ inr (subst (IsJoined new (pair (slice_index by.images (i / 6)) (image p (low (i % 6))) (image p (high (i % 6))))) q (joined_refl new (pair (slice_index by.images (i / 6)) (image p (low (i % 6))) (image p (high (i % 6))))))
      ])
      ∙ (λ k. arcs_carried coords s.triangles (length old) by is xs ys carried (i / 6) (face_by (i % 6)) (low (i % 6)) lt f.lf f.lv f.vf k + arcs_carried coords s.triangles (length old) by is xs ys carried (i / 6) (face_by (i % 6)) (high (i % 6)) lt f.lf f.lu f.uf k)
      ∙ sym (weight_itself old coords xs s i l)

  module _ (es : List ℕ) (count : ℕ) (numbered : IsNumbering (6 * length old) (SameEdge old) es count) (es' : List ℕ) (count' : ℕ) (numbered' : IsNumbering (6 * length new) (SameEdge new) es' count') where
    image_class : ℕ → ℕ
    image_class c = slice_index es' (image_edge by (least es c))

    least_is : (c : ℕ) → c < count → (least es c < 6 * length old) × (slice_index es (least es c) ≡ c)
    least_is c l = least_class (6 * length old) (SameEdge old) es count numbered c l

    least_is' : (c : ℕ) → c < count' → (least es' c < 6 * length new) × (slice_index es' (least es' c) ≡ c)
    least_is' c l = least_class (6 * length new) (SameEdge new) es' count' numbered' c l

    below_new : (i : ℕ) → i < 6 * length old → image_edge by i < 6 * length new
    below_new i l = image_edge_below old new s.table s'.table by is carries i l

    classes_images : AreImages image_class (below count) (below count')
    unfolding image_class
    classes_images = record {
      separate = apart_below count;
      others_apart = apart_below count';
      into = λ c a. (let m = least_is c (below-among c count a) in Among-below (image_class c) count' (numbered'.in_range (image_edge by (least es c)) (below_new (least es c) m.0)));
      once = λ c d a b e. (let m = least_is c (below-among c count a) in let k = least_is d (below-among d count b) in
          sym m.1 ∙ (numbered.together (least es c) (least es d) m.0 k.0).1
          (edges_back old new s.table s'.table by is carries (least es c) (least es d) m.0 k.0 ((numbered'.together (image_edge by (least es c)) (image_edge by (least es d)) (below_new (least es c) m.0) (below_new (least es d) k.0)).0 e))
          ∙ k.1);
      from = λ d a.
          let m = least_is' d (below-among d count' a) in
          let f = from_edge old new s.table s'.table by is carries (least es' d) m.0 in
          let c : ℕ = slice_index es f.0 in
          let lc : slice_index es f.0 < count = numbered.in_range f.0 f.1 in
          let k = least_is c lc in (
            c,
            Among-below c count lc,
            (numbered'.together (image_edge by (least es c)) (image_edge by f.0) (below_new (least es c) k.0) (below_new f.0 f.1)).1
                (edges_forth old new s.table s'.table by is carries (least es c) f.0 k.0 f.1 ((numbered.together (least es c) f.0 k.0 f.1).0 k.1))
                ∙ ap (slice_index es') f.2 ∙ m.1,
          );
    }

    pub points_same : points coords ys es' count' ≡ points coords xs es count
    unfolding image_class
    points_same = images_sum image_class (below count) (below count') (λ c. weight coords xs (least es c)) (λ d. weight coords ys (least es' d)) classes_images (λ c a.
        let m = least_is c (below-among c count a) in
        let lb = below_new (least es c) m.0 in
        let k = least_is' (image_class c) (numbered'.in_range (image_edge by (least es c)) lb) in
        weight_same new coords ys s' (image_edge by (least es c)) (least es' (image_class c)) lb ((numbered'.together (image_edge by (least es c)) (least es' (image_class c)) lb k.0).0 (sym k.1))
        ∙ weight_image (least es c) m.0)

module _ (s : Skeleton) (s' : Skeleton) (k : IsSkeleton s) (k' : IsSkeleton s') (by : Relabelling) (is : IsRelabelling (length s.rows) by) (carries : Carries by s.rows s'.rows) (coords : Coords)
    (xs ys : List ℕ) (carried : IsCarried coords (length s.rows) by xs ys) (surface : IsSurface s.rows coords xs) (surface' : IsSurface s'.rows coords ys) where
  pub characteristic_same : characteristic s' coords ys ≡ characteristic s coords xs
  characteristic_same =
      let p = points_same s.rows s'.rows by is carries coords xs ys carried surface surface' s.edges.classes s.edges.count k.edges s'.edges.classes s'.edges.count k'.edges in
      let a = arcs_same s.rows s'.rows by k.table is carries coords surface.triangles xs ys carried surface.solves in
      let d = pieces_carried coords (length s.rows) by is xs ys carried in
      λ i. euler_of (p i) (a i) (d i)

-- A relabelling keeps valid edges, and the triangles and vertices of links.
use Rattle.std.proofs.Common.{◌≡◌, ◌≢◌, ℕ, ◌+◌, ◌*◌, ◌<◌, List, [], ◌∷◌, length, map, refl, sym, ap, ◌∙◌, subst, subst₂, arith}
use Rattle.std.specs.Prelude.{slice_index}
use Rattle.table_definitions.specs.Lists.{times_in}
use Rattle.table_definitions.specs.Permutation.{IsPermutationOfFour, image}
use Rattle.table_definitions.specs.Table.{Row, IsTable}
use Rattle.table_definitions.specs.Classes.{IsNumbering}
use Rattle.table_definitions.specs.Places.{Place, IsPlace, vertex, edge_number, backwards, IsJoined, SameVertex, HasValidEdges}
use Rattle.table_definitions.specs.Relabelling.{Relabelling, IsRelabelling, Carries, relabelled_place}
use Rattle.table_definitions.proofs.ChainLaws.{joined_sym, joined_trans}
use Rattle.table_definitions.proofs.Permutations.{image_below}
use Rattle.table_definitions.proofs.PermutationLaws.{images_apart}
use Rattle.table_definitions.proofs.TableLaws.{Among}
use Rattle.skeleton_definitions.specs.Links.{directed, SameDirected, link_vertices}
use Rattle.skeleton_class_laws.specs.Crossings.{pair, vertex_at}
use Rattle.skeleton_laws.proofs.Matchings.{related_same, passing_apart}
use Rattle.skeleton_laws.proofs.EdgeEnds.{EdgeAt, edge_ends_at, edge_below, reverses_edge}
use Rattle.move_link_laws.proofs.Valid.{two_of}
use Rattle.skeleton_laws.proofs.Spots.{class_of, IsSpot, one_class, vertex_spot, spot_again, vertex_number_again}
use Rattle.surface_laws.proofs.Vertices.{one_vertex}
use Rattle.skeleton_laws.proofs.Arrows.{IsArrow, arrow_place, directed_arrow, tail_of}
use Rattle.skeleton_laws.proofs.LinkCorners.{tail_spot, is_of_class, member_is, is_member, length-members, is_corner_number, corner_is, same_corner, length-corners, members, corners, found}
use Rattle.move_link_laws.proofs.Relabelled.{under, IsWithin, permutes, within_new, came_from, one_under, joined_both}

module _ (old : List Row) (new : List Row) (table : IsTable old) (table' : IsTable new) (by : Relabelling) (is : IsRelabelling (length old) by) (carries : Carries by old new) where
  pub perm_at : (t : ℕ) → t < length old → IsPermutationOfFour (relabelled_place by t).perm
  perm_at t l = permutes old new table by is carries t l

  spot_within : (p : Place) → IsSpot (length old) p → IsWithin old p
  spot_within p s = record { below = s.below; place = subst IsPlace (sym s.is) (s.low, tt) }

  spot_within' : (p : Place) → IsSpot (length new) p → IsWithin new p
  spot_within' p s = record { below = s.below; place = subst IsPlace (sym s.is) (s.low, tt) }

  pub spot_under : (p : Place) → IsSpot (length old) p → IsSpot (length new) (under by p)
  spot_under p s = record {
    v = image (relabelled_place by p.tet).perm s.v;
    is = (λ i. record { tet = (relabelled_place by p.tet).tet; vertices = map (image (relabelled_place by p.tet).perm) (s.is i).vertices });
    below = (within_new old new table by is carries p (spot_within p s)).below;
    low = image_below (relabelled_place by p.tet).perm (perm_at p.tet s.below) s.v s.low;
  }

  arrow_within : (p : Place) → IsArrow (length old) p → IsWithin old p
  arrow_within p a = record { below = a.below; place = arrow_place (length old) p a }

  arrow_under : (p : Place) → IsArrow (length old) p → IsArrow (length new) (under by p)
  arrow_under p a =
      let hp = perm_at p.tet a.below in record {
        v = image (relabelled_place by p.tet).perm a.v;
        w = image (relabelled_place by p.tet).perm a.w;
        is = (λ i. record { tet = (relabelled_place by p.tet).tet; vertices = map (image (relabelled_place by p.tet).perm) (a.is i).vertices });
        below = (within_new old new table by is carries p (arrow_within p a)).below;
        low_v = image_below (relabelled_place by p.tet).perm hp a.v a.low_v;
        low_w = image_below (relabelled_place by p.tet).perm hp a.w a.low_w;
        separate = images_apart (relabelled_place by p.tet).perm a.v a.w hp a.low_v a.low_w a.separate;
      }

  -- a table has valid edges if its relabelling has
  pub valid_relabelled : HasValidEdges new → HasValidEdges old
  valid_relabelled valid i l j =
      let e : EdgeAt i = edge_ends_at i in
      let lt : e.t < length old = (let q = e.tet in omega arith) in
      let s : List ℕ = (relabelled_place by e.t).perm in
      let hs : IsPermutationOfFour (relabelled_place by e.t).perm = perm_at e.t lt in
      let p : Place = pair e.t e.a e.b in
      let w : IsWithin old (pair e.t e.a e.b) = record { below = lt; place = (e.low_a, (e.low_b, tt)) } in
      let v : IsWithin old (pair e.t e.b e.a) = record { below = lt; place = (e.low_b, (e.low_a, tt)) } in
      let there = (joined_both old new table table' by is carries (pair e.t e.a e.b) (pair e.t e.b e.a) w v).0 (subst₂ (IsJoined old) e.is (ap backwards e.is) j) in
      let u : ℕ = (relabelled_place by e.t).tet in
      let x : ℕ = image s e.a in
      let y : ℕ = image s e.b in
      let ne : image (relabelled_place by e.t).perm e.a ≢ image (relabelled_place by e.t).perm e.b = images_apart s e.a e.b hs e.low_a e.low_b e.separate in
      let lx : image (relabelled_place by e.t).perm e.a < 4 = image_below s hs e.a e.low_a in
      let ly : image (relabelled_place by e.t).perm e.b < 4 = image_below s hs e.b e.low_b in
      valid (6 * u + edge_number x y) (edge_below u x y (length new) lx ly ne (within_new old new table by is carries (pair e.t e.a e.b) w).below) (reverses_edge new u x y lx ly ne there)

  module _ (vs : List ℕ) (n : ℕ) (numbered : IsNumbering (4 * length old) (SameVertex old) vs n) (vs' : List ℕ) (n' : ℕ) (numbered' : IsNumbering (4 * length new) (SameVertex new) vs' n')
      (p0 : Place) (s0 : IsSpot (length old) p0) where
    abbrev c : ℕ
    c = class_of vs p0

    abbrev c' : ℕ
    c' = class_of vs' (under by p0)

    pub class_over : (p : Place) → IsSpot (length old) p → class_of vs p ≡ c → class_of vs' (under by p) ≡ c'
    class_over p s e = (one_class new vs' n' numbered' (under by p) (under by p0) (spot_under p s) (spot_under p0 s0)).1
        ((joined_both old new table table' by is carries p p0 (spot_within p s) (spot_within p0 s0)).0 ((one_class old vs n numbered p p0 s s0).0 e))

    pub class_back : (p : Place) → IsSpot (length old) p → class_of vs' (under by p) ≡ c' → class_of vs p ≡ c
    class_back p s e = (one_class old vs n numbered p p0 s s0).1
        ((joined_both old new table table' by is carries p p0 (spot_within p s) (spot_within p0 s0)).1 ((one_class new vs' n' numbered' (under by p) (under by p0) (spot_under p s) (spot_under p0 s0)).0 e))

    -- each vertex is the image of a vertex
    spot_from : (q : Place) → IsSpot (length new) q → (p : Place) × IsSpot (length old) p × (under by p ≡ q)
    spot_from q s =
        let f = came_from old new table by is carries q (spot_within' q s) in
        let lists : map (image (relabelled_place by f.0.tet).perm) f.0.vertices ≡ s.v ∷ [] = ap (λ (r : Place). r.vertices) (f.2 ∙ s.is) in
        let one = single f.0.vertices (relabelled_place by f.0.tet).perm s.v lists in
        (f.0, record { v = one.0; is = (λ i. record { tet = f.0.tet; vertices = one.1 i }); below = f.1.below; low = (subst (λ (vs : List ℕ). IsPlace (record { tet = f.0.tet; vertices = vs })) one.1 f.1.place).0 }, f.2)
      where
        single : (vs g : List ℕ) (v : ℕ) → map (image g) vs ≡ v ∷ [] → (w : ℕ) × (vs ≡ w ∷ [])
        single [] g v e = absurd cc
        single (w ∷ []) g v e = (w, refl)
        single (w ∷ u ∷ us) g v e = absurd (let z : image g u ∷ map (image g) us ≡ [] = cc in cc)

    arrow_from : (q : Place) → IsArrow (length new) q → (p : Place) × IsArrow (length old) p × (under by p ≡ q)
    arrow_from q a =
        let f = came_from old new table by is carries q (record { below = a.below; place = arrow_place (length new) q a }) in
        let s : List ℕ = (relabelled_place by f.0.tet).perm in
        let w = two_of s f.0.vertices a.v a.w (ap (λ (r : Place). r.vertices) (f.2 ∙ a.is)) in
        let place = subst (λ (vs : List ℕ). IsPlace (record { tet = f.0.tet; vertices = vs })) w.2 f.1.place in
        (f.0, record { v = w.0; w = w.1; is = (λ i. record { tet = f.0.tet; vertices = w.2 i }); below = f.1.below; low_v = place.0; low_w = place.1.0; separate = λ e. a.separate (sym w.3 ∙ ap (image s) e ∙ w.4) }, f.2)

    pub triangles_same : times_in vs c ≡ times_in vs' c'
    triangles_same =
        sym (length-members old vs n numbered c)
        ∙ related_same (λ (i j : ℕ). vertex j ≡ under by (vertex i)) (members old vs n numbered c) (members new vs' n' numbered' c') (passing_apart (is_of_class old vs n numbered c) (4 * length old)) (passing_apart (is_of_class new vs' n' numbered' c') (4 * length new))
        forth back once (λ i j k a b r s. sym (vertex_number_again j) ∙ ap vertex_at (r ∙ sym s) ∙ vertex_number_again k)
        ∙ length-members new vs' n' numbered' c'
      where
        forth : (i : ℕ) → Among i (members old vs n numbered c) → (j : ℕ) × Among j (members new vs' n' numbered' c') × (vertex j ≡ under by (vertex i))
        forth i a =
            let q = member_is old vs n numbered c i a in
            let s = vertex_spot (length old) i q.0 in
            (vertex_at (under by (vertex i)), is_member new vs' n' numbered' c' (under by (vertex i)) (spot_under (vertex i) s) (class_over (vertex i) s q.1), spot_again (length new) (under by (vertex i)) (spot_under (vertex i) s))

        back : (j : ℕ) → Among j (members new vs' n' numbered' c') → (i : ℕ) × Among i (members old vs n numbered c) × (vertex j ≡ under by (vertex i))
        back j a =
            let q = member_is new vs' n' numbered' c' j a in
            let f = spot_from (vertex j) (vertex_spot (length new) j q.0) in
            (vertex_at f.0, is_member old vs n numbered c f.0 f.1 (class_back f.0 f.1 (ap (class_of vs') f.2 ∙ q.1)), sym f.2 ∙ ap (under by) (sym (spot_again (length old) f.0 f.1)))

        once : (i j k : ℕ) → Among i (members old vs n numbered c) → Among j (members old vs n numbered c) → vertex k ≡ under by (vertex i) → vertex k ≡ under by (vertex j) → i ≡ j
        once i j k a b r s =
            let same = one_under old new table by is carries (vertex i) (vertex j) (spot_within (vertex i) (vertex_spot (length old) i (member_is old vs n numbered c i a).0)) (spot_within (vertex j) (vertex_spot (length old) j (member_is old vs n numbered c j b).0)) (sym r ∙ s) in
            sym (vertex_number_again i) ∙ ap vertex_at same ∙ vertex_number_again j

    module _ (ds : List ℕ) (d : ℕ) (arrows : IsNumbering (12 * length old) (SameDirected old) ds d) (ds' : List ℕ) (d' : ℕ) (arrows' : IsNumbering (12 * length new) (SameDirected new) ds' d') where
      abbrev ours : List ℕ
      ours = corners old vs n numbered c ds d arrows

      abbrev theirs : List ℕ
      theirs = corners new vs' n' numbered' c' ds' d' arrows'

      arrow_at : (i : ℕ) → Among i ours → IsArrow (length old) (directed i)
      arrow_at i a = directed_arrow (length old) i (corner_is old vs n numbered c ds d arrows i a).below

      arrow_there : (j : ℕ) → Among j theirs → IsArrow (length new) (directed j)
      arrow_there j a = directed_arrow (length new) j (corner_is new vs' n' numbered' c' ds' d' arrows' j a).below

      tails_under : (p : Place) → IsArrow (length old) p → tail_of (under by p) ≡ under by (tail_of p)
      tails_under p a = (λ i. one_vertex (relabelled_place by p.tet).tet (slice_index (map (image (relabelled_place by p.tet).perm) (a.is i).vertices) 0)) ∙ (λ i. one_vertex (relabelled_place by p.tet).tet (image (relabelled_place by p.tet).perm (slice_index (sym a.is i).vertices 0)))

      abbrev Corner : ℕ → ℕ → Type 0
      Corner i j = (i < 12 * length old) × IsJoined new (under by (directed i)) (directed j)

      place_under : (i : ℕ) → i < 12 * length old → IsPlace (under by (directed i))
      place_under i l = arrow_place (length new) (under by (directed i)) (arrow_under (directed i) (directed_arrow (length old) i l))

      pub vertices_same : link_vertices vs ds c ≡ link_vertices vs' ds' c'
      vertices_same =
          sym (length-corners old vs n numbered c ds d arrows)
          ∙ related_same Corner ours theirs (passing_apart (is_corner_number old vs n numbered c ds d arrows) (12 * length old)) (passing_apart (is_corner_number new vs' n' numbered' c' ds' d' arrows') (12 * length new))
          forth back once once'
          ∙ length-corners new vs' n' numbered' c' ds' d' arrows'
        where
          forth : (i : ℕ) → Among i ours → (j : ℕ) × Among j theirs × Corner i j
          forth i a =
              let ar = arrow_at i a in
              let q = corner_is old vs n numbered c ds d arrows i a in
              let f = found new vs' n' numbered' c' ds' d' arrows' (under by (directed i)) (arrow_under (directed i) ar)
              (ap (class_of vs') (tails_under (directed i) ar) ∙ class_over (tail_of (directed i)) (tail_spot (length old) (directed i) ar) q.here) in
              (f.i, f.among, (q.below, f.joined))

          back : (j : ℕ) → Among j theirs → (i : ℕ) × Among i ours × Corner i j
          back j a =
              let p = arrow_from (directed j) (arrow_there j a) in
              let here : class_of vs (tail_of p.0) ≡ c = class_back (tail_of p.0) (tail_spot (length old) p.0 p.1) (ap (class_of vs') (sym (tails_under p.0 p.1) ∙ ap tail_of p.2) ∙ (corner_is new vs' n' numbered' c' ds' d' arrows' j a).here) in
              let f = found old vs n numbered c ds d arrows p.0 p.1 here in
              let there = (joined_both old new table table' by is carries p.0 (directed f.i) (arrow_within p.0 p.1) (arrow_within (directed f.i) (arrow_at f.i f.among))).0 f.joined in
              let from : IsJoined new (directed j) (under by (directed f.i)) = subst (λ (q : Place). IsJoined new q (under by (directed f.i))) p.2 there in
              (f.i, f.among, ((corner_is old vs n numbered c ds d arrows f.i f.among).below, joined_sym new (directed j) (under by (directed f.i)) table' (arrow_place (length new) (directed j) (arrow_there j a)) from))

          once : (i j k : ℕ) → Among i ours → Among j ours → Corner i k → Corner j k → i ≡ j
          once i j k a b r s =
              let both = joined_trans new (under by (directed i)) (directed k) (under by (directed j)) r.1 (joined_sym new (under by (directed j)) (directed k) table' (place_under j s.0) s.1) in
              same_corner old vs n numbered c ds d arrows i j (corner_is old vs n numbered c ds d arrows i a) (corner_is old vs n numbered c ds d arrows j b)
              ((joined_both old new table table' by is carries (directed i) (directed j) (arrow_within (directed i) (arrow_at i a)) (arrow_within (directed j) (arrow_at j b))).1 both)

          once' : (i j k : ℕ) → Among j theirs → Among k theirs → Corner i j → Corner i k → j ≡ k
          once' i j k a b r s = same_corner new vs' n' numbered' c' ds' d' arrows' j k (corner_is new vs' n' numbered' c' ds' d' arrows' j a) (corner_is new vs' n' numbered' c' ds' d' arrows' k b)
              (joined_trans new (directed j) (under by (directed i)) (directed k) (joined_sym new (under by (directed i)) (directed j) table' (place_under i r.0) r.1) s.1)

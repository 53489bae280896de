-- A relabelling keeps which sides of a link lie in boundary faces, and so all numbers of a link.
use Rattle.std.proofs.Common.{◌≡◌, ◌≢◌, ℕ, ◌+◌, ◌*◌, ◌/◌, ◌%◌, ◌<◌, true, List, length, Option, Some, None, refl, sym, ap, ◌∙◌, subst, arith}
use Rattle.std.specs.Prelude.{◌==◌, option_map, slice_index}
use Rattle.table_definitions.specs.Lists.{times_in}
use Rattle.table_definitions.specs.Permutation.{IsPermutationOfFour, image, preimage}
use Rattle.table_definitions.specs.Table.{Gluing, Row, Face, glue, IsTable}
use Rattle.table_definitions.specs.Classes.{IsNumbering}
use Rattle.table_definitions.specs.Places.{Place, SameVertex}
use Rattle.table_definitions.specs.Relabelling.{Relabelling, IsRelabelling, Carries, relabelled_place, gluing_under}
use Rattle.table_definitions.proofs.Carried.{RepresentsFacet, stands_for}
use Rattle.table_definitions.proofs.Faces.{face_at}
use Rattle.table_definitions.proofs.Permutations.{image_below, preimage_below, image-preimage}
use Rattle.table_definitions.proofs.PermutationLaws.{images_apart}
use Rattle.table_definitions.proofs.TableLaws.{Among}
use Rattle.skeleton_definitions.specs.Links.{SameDirected, link_vertices, link_edges, is_closed_link}
use Rattle.skeleton_laws.proofs.Matchings.{related_same, length-passing, passing_apart}
use Rattle.skeleton_laws.proofs.Sides.{side_face, is_side, free_side}
use Rattle.skeleton_laws.proofs.SideParts.{IsSideAt, side_is, is_side_from, HasParts, has_parts, number_again, side_number}
use Rattle.skeleton_laws.proofs.Halves.{frees, free_is, is_free}
use Rattle.skeleton_laws.proofs.TwiceEdges.{free_count, closed_told, twice_edges}
use Rattle.skeleton_laws.proofs.Spots.{class_of, IsSpot}
use Rattle.surface_laws.proofs.Vertices.{one_vertex}
use Rattle.move_link_laws.proofs.Relabelled.{under, one_under}
use Rattle.move_link_laws.proofs.RelabelledLinks.{perm_at, spot_under, class_over, class_back, triangles_same, vertices_same}

module _ (old : List Row) (new : List Row) (table : IsTable old) (table' : IsTable new) (by : Relabelling) (is : IsRelabelling (length old) by) (carries : Carries by old new) where
  module _ (vs : List ℕ) (n : ℕ) (numbered : IsNumbering (4 * length old) (SameVertex old) vs n) (vs' : List ℕ) (n' : ℕ) (numbered' : IsNumbering (4 * length new) (SameVertex new) vs' n')
      (p0 : Place) (s0 : IsSpot (length old) p0) where
    abbrev c : ℕ
    c = class_of vs p0

    abbrev c' : ℕ
    c' = class_of vs' (under by p0)

    module _ (ds : List ℕ) (d : ℕ) (arrows : IsNumbering (12 * length old) (SameDirected old) ds d) (ds' : List ℕ) (d' : ℕ) (arrows' : IsNumbering (12 * length new) (SameDirected new) ds' d') where
      -- sides in boundary faces
      abbrev across_side : ℕ → ℕ
      across_side k = side_number (relabelled_place by (k / 4 / 4)).tet (image (relabelled_place by (k / 4 / 4)).perm (k / 4 % 4)) (image (relabelled_place by (k / 4 / 4)).perm (k % 4))

      low_v : (k : ℕ) → k / 4 % 4 < 4
      low_v k = omega arith

      low_f : (k : ℕ) → k % 4 < 4
      low_f k = omega arith

      side_parts : (k : ℕ) → k / 4 / 4 < length old → HasParts (relabelled_place by (k / 4 / 4)).tet (image (relabelled_place by (k / 4 / 4)).perm (k / 4 % 4)) (image (relabelled_place by (k / 4 / 4)).perm (k % 4))
      side_parts k l = has_parts (relabelled_place by (k / 4 / 4)).tet (image (relabelled_place by (k / 4 / 4)).perm (k / 4 % 4)) (image (relabelled_place by (k / 4 / 4)).perm (k % 4))
          (image_below (relabelled_place by (k / 4 / 4)).perm (perm_at old new table table' by is carries (k / 4 / 4) l) (k / 4 % 4) (low_v k)) (image_below (relabelled_place by (k / 4 / 4)).perm (perm_at old new table table' by is carries (k / 4 / 4) l) (k % 4) (low_f k))

      abbrev Side : ℕ → ℕ → Type 0
      Side k j = (k / 4 / 4 < length old) × (across_side k ≡ j)

      frees_same : free_count old table vs n numbered c ≡ free_count new table' vs' n' numbered' c'
      frees_same =
          sym (length-passing (free_side old vs c) (4 * (4 * length old)))
          ∙ related_same Side (frees old table vs n numbered c) (frees new table' vs' n' numbered' c') (passing_apart (free_side old vs c) (4 * (4 * length old))) (passing_apart (free_side new vs' c') (4 * (4 * length new)))
          forth back (λ i j k a b r s. once i j k r s) (λ i j k a b r s. sym r.1 ∙ s.1)
          ∙ length-passing (free_side new vs' c') (4 * (4 * length new))
        where
          forth : (k : ℕ) → Among k (frees old table vs n numbered c) → (j : ℕ) × Among j (frees new table' vs' n' numbered' c') × Side k j
          forth k a =
              let f = free_is old table vs n numbered c k a in
              let side : IsSideAt vs c k = side_is vs c k f.1 in
              let lt : k / 4 / 4 < length old = (let l = f.0 in omega arith) in
              let s : Gluing = relabelled_place by (k / 4 / 4) in
              let hs : IsPermutationOfFour (relabelled_place by (k / 4 / 4)).perm = perm_at old new table table' by is carries (k / 4 / 4) lt in
              let parts = side_parts k lt in
              let p : Place = one_vertex (k / 4 / 4) (k / 4 % 4) in
              let ps : IsSpot (length old) (one_vertex (k / 4 / 4) (k / 4 % 4)) = record { v = k / 4 % 4; is = refl; below = lt; low = low_v k } in
              let place : 4 * (k / 4 / 4) + k / 4 % 4 ≡ k / 4 = omega arith in
              let at : slice_index vs' (across_side k / 4) ≡ c' = ap (slice_index vs') parts.place ∙ class_over old new table table' by is carries vs n numbered vs' n' numbered' p0 s0 p ps (ap (slice_index vs) place ∙ side.at) in
              let off : across_side k / 4 % 4 ≢ across_side k % 4 = (λ e. images_apart s.perm (k / 4 % 4) (k % 4) hs (low_v k) (low_f k) side.off (sym parts.vertex ∙ e ∙ parts.face)) in
              let none : glue new (side_face (across_side k)) ≡ None = (λ i. glue new (face_at (parts.tet i) (parts.face i))) ∙ carries.glued (side_face k) lt (low_f k) ∙ ap (option_map (λ g. gluing_under (relabelled_place by (k / 4 / 4)) (relabelled_place by g.tet) g)) f.2 in
              let small : across_side k < 4 * (4 * length new) = (let r : (relabelled_place by (k / 4 / 4)).tet < length new = (spot_under old new table table' by is carries p ps).below in let a1 : image (relabelled_place by (k / 4 / 4)).perm (k / 4 % 4) < 4 = image_below s.perm hs (k / 4 % 4) (low_v k) in
              let a2 : image (relabelled_place by (k / 4 / 4)).perm (k % 4) < 4 = image_below s.perm hs (k % 4) (low_f k) in omega arith) in
              (across_side k, is_free new table' vs' n' numbered' c' (across_side k) small (is_side_from vs' c' (across_side k) off at) none, (lt, refl))

          back : (j : ℕ) → Among j (frees new table' vs' n' numbered' c') → (k : ℕ) × Among k (frees old table vs n numbered c) × Side k j
          back j a = (k, is_free old table vs n numbered c k small (is_side_from vs c k off at) none, (lt, again))
            where
              f : (j < 4 * (4 * length new)) × (is_side vs' c' j ≡ true) × (glue new (side_face j) ≡ None)
              f = free_is new table' vs' n' numbered' c' j a

              side : IsSideAt vs' c' j
              side = side_is vs' c' j f.1

              came : (x : Face) × RepresentsFacet old new by (side_face j) x
              came = stands_for old new by is carries (side_face j) (let e = carries.same_length in let l = f.0 in omega arith) (low_f j)

              x : Face
              x = came.0

              s : Gluing
              s = relabelled_place by x.tet

              hs : IsPermutationOfFour s.perm
              hs = perm_at old new table table' by is carries x.tet came.1.tet

              v : ℕ
              v = preimage s.perm (j / 4 % 4)

              lv : v < 4
              lv = preimage_below s.perm hs (j / 4 % 4) (low_v j)

              there : image s.perm v ≡ j / 4 % 4
              there = image-preimage s.perm hs (j / 4 % 4) (low_v j)

              faces : image s.perm x.face ≡ j % 4
              faces = λ i. (came.1.is i).face

              k : ℕ
              k = side_number x.tet v x.face

              parts : HasParts x.tet v x.face
              parts = has_parts x.tet v x.face lv came.1.face

              lt : k / 4 / 4 < length old
              lt = subst (λ t. t < length old) (sym parts.tet) came.1.tet

              small : k < 4 * (4 * length old)
              small = let l = came.1.tet in let b : preimage (relabelled_place by came.0.tet).perm (j / 4 % 4) < 4 = lv in let g = came.1.face in omega arith

              ne : v ≢ x.face
              ne e = side.off (sym there ∙ ap (image s.perm) e ∙ faces)

              off : k / 4 % 4 ≢ k % 4
              off e = ne (sym parts.vertex ∙ e ∙ parts.face)

              ps : IsSpot (length old) (one_vertex x.tet v)
              ps = record { v = v; is = refl; below = came.1.tet; low = lv }

              spots : under by (one_vertex x.tet v) ≡ one_vertex (j / 4 / 4) (j / 4 % 4)
              spots = λ i. one_vertex ((came.1.is i).tet) (there i)

              place : 4 * (j / 4 / 4) + j / 4 % 4 ≡ j / 4
              place = omega arith

              at : slice_index vs (k / 4) ≡ c
              at = ap (slice_index vs) parts.place ∙ class_back old new table table' by is carries vs n numbered vs' n' numbered' p0 s0 (one_vertex x.tet v) ps (ap (class_of vs') spots ∙ ap (slice_index vs') place ∙ side.at)

              none_from : (o : Option Gluing) → glue old x ≡ o → glue old x ≡ None
              none_from None e = e
              none_from (Some g) e =
                  let some : None ≡ Some (gluing_under (relabelled_place by x.tet) (relabelled_place by g.tet) g) = sym f.2 ∙ ap (glue new) (sym came.1.is) ∙ carries.glued x came.1.tet came.1.face ∙ ap (option_map (λ g. gluing_under (relabelled_place by x.tet) (relabelled_place by g.tet) g)) e in
                  absurd cc

              none : glue old (side_face k) ≡ None
              none = (λ i. glue old (face_at (parts.tet i) (parts.face i))) ∙ none_from (glue old x) refl

              again : across_side k ≡ j
              again =
                  (λ i. side_number (relabelled_place by (parts.tet i)).tet (image (relabelled_place by (parts.tet i)).perm (parts.vertex i)) (image (relabelled_place by (parts.tet i)).perm (parts.face i)))
                  ∙ (λ i. side_number ((came.1.is i).tet) (there i) (faces i)) ∙ number_again j

          once : (k l j : ℕ) → Side k j → Side l j → k ≡ l
          once k l j r s =
              let p = side_parts k r.0 in
              let q = side_parts l s.0 in
              let same : across_side k ≡ across_side l = r.1 ∙ sym s.1 in
              let vertices = one_under old new table by is carries (one_vertex (k / 4 / 4) (k / 4 % 4)) (one_vertex (l / 4 / 4) (l / 4 % 4)) (record { below = r.0; place = (low_v k, tt) }) (record { below = s.0; place = (low_v l, tt) })
              ((λ i. one_vertex (sym p.tet i) (sym p.vertex i)) ∙ (λ i. one_vertex (same i / 4 / 4) (same i / 4 % 4)) ∙ (λ i. one_vertex (q.tet i) (q.vertex i))) in
              let faces = one_under old new table by is carries (one_vertex (k / 4 / 4) (k % 4)) (one_vertex (l / 4 / 4) (l % 4)) (record { below = r.0; place = (low_f k, tt) }) (record { below = s.0; place = (low_f l, tt) })
              ((λ i. one_vertex (sym p.tet i) (sym p.face i)) ∙ (λ i. one_vertex (same i / 4 / 4) (same i % 4)) ∙ (λ i. one_vertex (q.tet i) (q.face i))) in
              let a : k / 4 / 4 ≡ l / 4 / 4 = ap (λ (x : Place). x.tet) vertices in
              let b : k / 4 % 4 ≡ l / 4 % 4 = ap (λ (x : Place). slice_index x.vertices 0) vertices in
              let e : k % 4 ≡ l % 4 = ap (λ (x : Place). slice_index x.vertices 0) faces in
              sym (number_again k) ∙ (λ i. side_number (a i) (b i) (e i)) ∙ number_again l

      pub closed_same : is_closed_link old vs c ≡ is_closed_link new vs' c'
      closed_same = closed_told old table vs n numbered c ∙ ap (λ z. z == 0) frees_same ∙ sym (closed_told new table' vs' n' numbered' c')

      pub eulers_same : link_vertices vs ds c + times_in vs c + link_edges new vs' c' ≡ link_vertices vs' ds' c' + times_in vs' c' + link_edges old vs c
      eulers_same =
          let v = vertices_same old new table table' by is carries vs n numbered vs' n' numbered' p0 s0 ds d arrows ds' d' arrows' in
          let t = triangles_same old new table table' by is carries vs n numbered vs' n' numbered' p0 s0 in
          let e : 2 * link_edges old vs c ≡ 3 * times_in vs c + free_count old table vs n numbered c = twice_edges old table vs n numbered c in
          let e' : 2 * link_edges new vs' c' ≡ 3 * times_in vs' c' + free_count new table' vs' n' numbered' c' = twice_edges new table' vs' n' numbered' c' in
          let f = frees_same in
          omega arith

-- A step of the new table corresponds to steps of the old one: chains join places of the old table if and only if they
-- join their images.
use Rattle.std.proofs.Common.{◌≡◌, ◌≢◌, ℕ, ◌+◌, ◌<◌, false, List, [], ◌∷◌, length, map, Option, Some, None, ◌⊎◌, inl, inr, refl, sym, ap, ◌∙◌, subst, arith}
use Rattle.std.specs.Prelude.{option_and_then}
use Rattle.std.specs.List.{AllByRecursion}
use Rattle.table_definitions.specs.Lists.{has, rank_without}
use Rattle.table_definitions.specs.Permutation.{IsPermutationOfFour, image, inverse}
use Rattle.table_definitions.specs.Table.{Gluing, Row, Face, glue, IsTable}
use Rattle.table_definitions.specs.Places.{Place, IsPlace, carried, across, along, IsJoined}
use Rattle.table_definitions.proofs.TableLaws.{glued_tet, glued_face}
use Rattle.table_definitions.proofs.ChainLaws.{Steps, steps_across, joined_refl, joined_trans, joined_step, images_below, has-images, first_step}
use Rattle.table_definitions.proofs.Faces.{face_at}
use Rattle.table_definitions.proofs.PermutationLaws.{image-of_inverse}
use Rattle.table_definitions.proofs.Permutations.{image-preimage, image-inverse, inverse_permutes}
use Rattle.move_definitions.specs.Moves.{Move, Facet, IsMoved, vertex_of, kept, old_tets, moved_gluing}
use Rattle.move_laws.proofs.Labels.{ascending, new_labels}
use Rattle.move_laws.proofs.Placed.{closed_up_small}
use Rattle.move_laws.proofs.Covered.{StandsForOld, IsInner, covered}
use Rattle.move_laws.proofs.Shapes.{stand_permutes}
use Rattle.move_link_laws.proofs.Labelled.{in_facet, has-vertices}
use Rattle.move_link_laws.proofs.Ties.{fine, new_at, small_label, new_step, Ties, FacetTie}
use Rattle.move_link_laws.proofs.TieShapes.{tie_shape, facet_tie}
use Rattle.move_link_laws.proofs.TiesOnce.{stands_once, stood_for_once}
use Rattle.move_link_laws.proofs.Joined.{tie_place, Follows, step_over, other, step_new, tie_here, tie_there, step_old}

pub there_again : (s : List ℕ) (vs : List ℕ) → IsPermutationOfFour s → AllByRecursion (λ v. v < 4) vs → map (image s) (map (image (inverse s)) vs) ≡ vs
there_again s [] h a = refl
there_again s (v ∷ vs) h a =
    let one : image s (image (inverse s) v) ≡ v = ap (image s) (image-inverse s v a.0) ∙ image-preimage s h v a.0 in
    λ i. one i ∷ there_again s vs h a.1 i

module _ (old : List Row) (m : Move) (new : List Row) (table : IsTable old) (h : IsMoved old m new) where
  abbrev Tie : Place → Place → Type 0
  Tie p q = Ties old m new table h p q

  abbrev at : ℕ → Facet
  at j = new_at old m new table h j

  record Precedes (q' p : Place) : Type 0 where
    there : Place
    tie : Tie there q'
    joined : IsJoined old p there

  step_under : (p q q' : Place) (f : ℕ) → across new q f ≡ Some q' → Tie p q → Precedes q' p
  step_under p q q' f e t = by_cover (covered old m (face_at q.tet f) table (fine old m new table h) h.core (let n = h.length_is in let l : q.tet < length new = glued_tet new (face_at q.tet f) st.gluing st.glued in omega arith) lf)
    where
      st : Steps new q f q'
      st = steps_across new q f q' e

      lf : f < 4
      lf = glued_face new (face_at q.tet f) st.gluing h.four_faces st.glued

      place_q : IsPlace q
      place_q = tie_place old m new table h p q t

      outside : StandsForOld old m (face_at q.tet f) → Precedes q' p
      outside o = by_gluing (glue old x) refl
        where
          x : Face
          x = o.old

          s : Gluing
          s = o.by

          hs' : IsPermutationOfFour s.perm
          hs' = stand_permutes old m table (fine old m new table h) h.core x s o.tet o.face o.occurs

          vs : List ℕ
          vs = map (image (inverse s.perm)) q.vertices

          p1 : Place
          p1 = record { tet = x.tet; vertices = vs }

          place1 : IsPlace p1
          place1 = images_below (inverse s.perm) q.vertices (inverse_permutes s.perm hs') place_q

          f_is : image s.perm x.face ≡ f
          f_is = ap (λ (y : Face). y.face) o.is

          face_is : x.face ≡ image (inverse s.perm) f
          face_is = sym (image-of_inverse s.perm x.face hs' o.face) ∙ ap (image (inverse s.perm)) f_is

          off1 : has vs x.face ≡ false
          off1 = ap (has vs) face_is ∙ has-images (inverse s.perm) q.vertices f (inverse_permutes s.perm hs') place_q lf ∙ st.off

          q_is : carried s p1 ≡ q
          q_is = λ i. record { tet = (o.is i).tet; vertices = there_again s.perm q.vertices hs' place_q i }

          moved : option_and_then (moved_gluing old m x s) (glue old x) ≡ Some st.gluing
          moved = sym (h.outer x s o.tet o.face o.occurs) ∙ ap (glue new) o.is ∙ st.glued

          by_gluing : (c : Option Gluing) → glue old x ≡ c → Precedes q' p
          by_gluing None n = absurd (let z : None ≡ Some st.gluing = sym (ap (option_and_then (moved_gluing old m x s)) n) ∙ moved in cc)
          by_gluing (Some g) n =
              let r : Gluing = (other old m new table h x s g o.tet o.face o.occurs n).0 in
              let step : across new (carried s p1) (image s.perm x.face) ≡ Some (carried r (carried g p1)) = step_new old m new table h x s g o.tet o.face o.occurs n vs place1 off1 in
              let same : Some (carried r (carried g p1)) ≡ Some q' = sym step ∙ (λ i. across new (q_is i) (f_is i)) ∙ e in
              let is : carried r (carried g p1) ≡ q' = cc in
              let t1 : Tie p1 q = subst (λ (z : Place). Tie p1 z) q_is (tie_here old m new table h x s g o.tet o.face o.occurs n vs place1 off1) in
              record {
                there = carried g p1;
                tie = subst (λ (z : Place). Tie (carried g p1) z) is (tie_there old m new table h x s g o.tet o.face o.occurs n vs place1 off1);
                joined = joined_trans old p p1 (carried g p1) (stood_for_once old m new table h p p1 q t t1) (joined_step old p1 x.face (carried g p1) (step_old old m new table h x s g o.tet o.face o.occurs n vs place1 off1));
              }

      inside : IsInner old m (face_at q.tet f) → FacetTie old m new table h p q → Precedes q' p
      inside n a =
          let tets : kept old m + n.j ≡ kept old m + a.j = (λ i. (n.is i).tet) ∙ ap (λ (r : Place). r.tet) a.to in
          let nj : n.j ≡ a.j = omega arith in
          let l_small : n.l < 5 = small_label old m new table h n.l n.l_small in
          let j_small : a.j < 5 = small_label old m new table h a.j a.less in
          let ne : a.j ≢ n.l = λ z. n.separate (nj ∙ z) in
          let face : vertex_of (at a.j) n.l ≡ f = ap (λ j. vertex_of (at j) n.l) (sym nj) ∙ (λ i. (n.is i).face) in
          let off_l : has a.ls n.l ≡ false = sym (has-vertices a.j (ascending a.j) (new_labels a.j j_small) a.ls n.l a.small a.off_j l_small (λ z. ne (sym z))) ∙ ap (has (map (vertex_of (at a.j)) a.ls)) face
          ∙ ap (λ (r : Place). has r.vertices f) (sym a.to) ∙ st.off in
          let step : across new (in_facet (at a.j) a.ls) (vertex_of (at a.j) n.l) ≡ Some (in_facet (at n.l) a.ls) = new_step old m new table h a.j n.l a.ls a.less n.l_small ne a.small a.off_j off_l in
          let same : Some (in_facet (at n.l) a.ls) ≡ Some q' = sym step ∙ (λ i. across new (sym a.to i) (face i)) ∙ e in
          let is : in_facet (at n.l) a.ls ≡ q' = cc in
          record {
            there = p;
            tie = subst (λ (r : Place). Tie r q') (sym a.from) (subst (λ (r : Place). Tie (in_facet a.f a.ls) r) is (facet_tie old m new table h a.i n.l a.f a.ls a.old_is n.l_small a.small a.off_i off_l));
            joined = joined_refl old p;
          }

      by_cover : StandsForOld old m (face_at q.tet f) ⊎ IsInner old m (face_at q.tet f) → Precedes q' p
      by_cover (inl o) = outside o
      by_cover (inr n) = elim (tie_shape old m new table h p q t) [
        | inl k ↦ absurd (let low : rank_without (old_tets old m) p.tet < kept old m = closed_up_small old m p.tet table (fine old m new table h) h.core k.tet k.stays in
            let tets : kept old m + n.j ≡ rank_without (old_tets old m) p.tet = (λ i. (n.is i).tet) ∙ ap (λ (r : Place). r.tet) k.is in omega arith)
        | inr a ↦ inside n a
      ]

  led_over : (fs : List ℕ) (p p' q : Place) → along old p fs ≡ Some p' → Tie p q → Follows old m new table h p' q
  led_over [] p p' q e t = (let same : p ≡ p' = cc in record { there = q; tie = subst (λ (r : Place). Tie r q) same t; joined = joined_refl new q })
  led_over (f ∷ fs) p p' q e t =
      let s = first_step old fs p' (across old p f) e in
      let one : Follows old m new table h s.0 q = step_over old m new table h p s.0 q f s.1 t in
      let rest : Follows old m new table h p' one.there = led_over fs s.0 p' one.there s.2 one.tie in
      record { there = rest.there; tie = rest.tie; joined = joined_trans new q one.there rest.there one.joined rest.joined }

  led_under : (fs : List ℕ) (q q' p : Place) → along new q fs ≡ Some q' → Tie p q → Precedes q' p
  led_under [] q q' p e t = (let same : q ≡ q' = cc in record { there = p; tie = subst (λ (r : Place). Tie p r) same t; joined = joined_refl old p })
  led_under (f ∷ fs) q q' p e t =
      let s = first_step new fs q' (across new q f) e in
      let one : Precedes s.0 p = step_under p q s.0 f s.1 t in
      let rest : Precedes q' one.there = led_under fs s.0 q' one.there s.2 one.tie in
      record { there = rest.there; tie = rest.tie; joined = joined_trans old p one.there rest.there one.joined rest.joined }

  -- chains join places if and only if they join their images
  pub joined_over : (p p' q q' : Place) → Tie p q → Tie p' q' → IsJoined old p p' → IsJoined new q q'
  joined_over p p' q q' t t' j = let f = led_over j.0 p p' q j.1 t in joined_trans new q f.there q' f.joined (stands_once old m new table h p' f.there q' f.tie t')

  pub joined_under : (p p' q q' : Place) → Tie p q → Tie p' q' → IsJoined new q q' → IsJoined old p p'
  joined_under p p' q q' t t' j = let f = led_under j.0 q q' p j.1 t in joined_trans old p f.there p' f.joined (stood_for_once old m new table h f.there p' q' f.tie t')

  -- a place that is joined to one with an image has an image, and one that is joined to an image is an image
  pub tie_follows : (p p' q : Place) → Tie p q → IsJoined old p p' → (q' : Place) × Tie p' q'
  tie_follows p p' q t j = let f = led_over j.0 p p' q j.1 t in (f.there, f.tie)

  pub tie_precedes : (p q q' : Place) → Tie p q → IsJoined new q q' → (p' : Place) × Tie p' q'
  tie_precedes p q q' t j = let f = led_under j.0 q q' p j.1 t in (f.there, f.tie)

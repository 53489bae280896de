-- The signs of images agree across faces, so signs of a link give signs of the corresponding link.
use Rattle.std.proofs.Common.{◌≡◌, ◌≢◌, ℕ, ◌+◌, ◌*◌, ◌<◌, Bool, false, List, [], ◌∷◌, length, map, Option, Some, None, ◌⊎◌, inl, inr, refl, sym, ap, ◌∙◌, subst, arith}
use Rattle.std.specs.Prelude.{option_map, option_and_then, slice_index}
use Rattle.table_definitions.specs.Lists.{has, rank_without}
use Rattle.table_definitions.specs.Permutation.{IsPermutationOfFour, image, identity, inverse, is_odd}
use Rattle.table_definitions.specs.Table.{Gluing, Row, Face, glue, other_side, IsTable}
use Rattle.table_definitions.specs.Classes.{IsNumbering}
use Rattle.table_definitions.specs.Places.{Place, carried, SameVertex}
use Rattle.table_definitions.specs.Relabelling.{gluing_under}
use Rattle.table_definitions.proofs.ChainLaws.{Steps, steps_across, across_by, joined_step, has-images}
use Rattle.table_definitions.proofs.Faces.{face_at}
use Rattle.table_definitions.proofs.Permutations.{image_below, inverse_permutes}
use Rattle.table_definitions.proofs.PermutationLaws.{image-of_inverse}
use Rattle.table_definitions.proofs.TableLaws.{glued_tet}
use Rattle.skeleton_definitions.specs.Links.{vertex_number, AreLinkSigns, IsOrientableLink}
use Rattle.move_definitions.specs.Moves.{Move, Facet, IsMoved, vertex_of, kept, old_tets, moved_gluing}
use Rattle.move_laws.proofs.Labels.{AreLabels, HasLabel, label_at}
use Rattle.move_laws.proofs.Labels as Labels
use Rattle.move_laws.proofs.Covered.{StandsForOld, IsInner, covered}
use Rattle.move_laws.proofs.Placed.{closed_up_small}
use Rattle.move_laws.proofs.Renamed.{across as over_new}
use Rattle.move_laws.proofs.SecondStand.{crossing, other_stands}
use Rattle.move_laws.proofs.Parities.{flip, behind, across_sign, flip_behind}
use Rattle.move_link_laws.proofs.Labelled.{in_facet, has-vertices}
use Rattle.move_link_laws.proofs.Ties.{fine, new_at, small_label, new_step, Ties, KeptTie, FacetTie}
use Rattle.move_link_laws.proofs.TieShapes.{tie_shape_by, facet_tie, facet_tie_by}
use Rattle.move_link_laws.proofs.JoinedBack.{there_again}
use Rattle.move_link_laws.proofs.Joined.{through as through_them}
use Rattle.skeleton_laws.proofs.Spots.{class_of, IsSpot, one_class}
use Rattle.surface_laws.proofs.Vertices.{one_vertex}
use Rattle.move_link_laws.proofs.TiedSpots.{Match}
use Rattle.move_link_laws.proofs.StarLabels.{off_one}
use Rattle.move_link_laws.proofs.Parity.{new_parity}
use Rattle.move_link_laws.proofs.ListedSigns.{S, agree_at, listed_at, signs_from}
use Rattle.move_link_laws.proofs.LinkSigns.{permutes, core_apart, over, under, new_spot, tied, old_spot, value, value_is, one_value}

module _ (old : List Row) (m : Move) (new : List Row) (table : IsTable old) (table' : IsTable new) (h : IsMoved old m new)
    (vs : List ℕ) (n : ℕ) (numbered : IsNumbering (4 * length old) (SameVertex old) vs n) (vs' : List ℕ) (n' : ℕ) (numbered' : IsNumbering (4 * length new) (SameVertex new) vs' n') (c c' : ℕ)
    (match : Match old m new table h vs n numbered vs' n' numbered' c c') where
  abbrev Tie : Place → Place → Type 0
  Tie p q = Ties old m new table h p q

  abbrev at : ℕ → Facet
  at j = new_at old m new table h j

  module _ (signs : List Bool) (are : AreLinkSigns old vs c signs) where
    -- a vertex of the new table, a face of it and the gluing there
    module _ (t v f : ℕ) (g' : Gluing) (lv : v < 4) (lf : f < 4) (ne : v ≡ f → ⊥) (own : slice_index vs' (vertex_number t v) ≡ c') (glued' : glue new (record { tet = t; face = f }) ≡ Some g') where
      abbrev q : Place
      q = one_vertex t v

      abbrev q' : Place
      q' = one_vertex g'.tet (image g'.perm v)

      spot_q : IsSpot (length new) (one_vertex t v)
      spot_q = record { v = v; is = refl; below = glued_tet new (record { tet = t; face = f }) g' glued'; low = lv }

      abbrev Agrees : Type 0
      Agrees = (spot' : IsSpot (length new) (one_vertex g'.tet (image g'.perm v))) × (own' : class_of vs' (one_vertex g'.tet (image g'.perm v)) ≡ c') × (value old m new table table' h vs n numbered vs' n' numbered' c c' match signs are (one_vertex g'.tet (image g'.perm v)) spot' own' ≡ behind (is_odd g'.perm) (value old m new table table' h vs n numbered vs' n' numbered' c c' match signs are (one_vertex t v) spot_q own))

      outside : StandsForOld old m (face_at t f) → Agrees
      outside o = by_gluing (glue old x) refl
        where
          x : Face
          x = o.old

          s : Gluing
          s = o.by

          hs : IsPermutationOfFour s.perm
          hs = permutes old m new table table' h vs n numbered vs' n' numbered' c c' match x s o.tet o.face o.occurs

          hi : IsPermutationOfFour (inverse s.perm)
          hi = inverse_permutes s.perm hs

          w : ℕ
          w = image (inverse s.perm) v

          lw : w < 4
          lw = image_below (inverse s.perm) hi v lv

          f_is : image s.perm x.face ≡ f
          f_is = λ i. (o.is i).face

          face_is : x.face ≡ image (inverse s.perm) f
          face_is = sym (image-of_inverse s.perm x.face hs o.face) ∙ ap (image (inverse s.perm)) f_is

          p : Place
          p = one_vertex x.tet w

          spot_p : IsSpot (length old) p
          spot_p = record { v = w; is = refl; below = o.tet; low = lw }

          off : has (w ∷ []) x.face ≡ false
          off = ap (has (w ∷ [])) face_is ∙ has-images (inverse s.perm) (v ∷ []) f hi (lv, tt) lf ∙ off_one v f ne

          tie : Tie p (one_vertex t v)
          tie = record { face = x.face; by = s; tet = o.tet; place = (lw, tt); low = o.face; off = off; occurs = o.occurs; is = λ i. record { tet = (sym o.is i).tet; vertices = sym (there_again s.perm (v ∷ []) hs (lv, tt)) i } }

          moved : option_and_then (moved_gluing old m x s) (glue old x) ≡ Some g'
          moved = sym (h.outer x s o.tet o.face o.occurs) ∙ ap (glue new) o.is ∙ glued'

          by_gluing : (a : Option Gluing) → glue old x ≡ a → Agrees
          by_gluing None e = absurd (let z : None ≡ Some g' = sym (ap (option_and_then (moved_gluing old m x s)) e) ∙ moved in cc)
          by_gluing (Some g) e =
              let other = other_stands old m table (fine old m new table h) h.core x s g o.face o.occurs e in
              let r : Gluing = other.0 in
              let hg : IsPermutationOfFour g.perm = table.permutes x g e in
              let lt' : g.tet < length old = table.in_range x g e in
              let lf' : image g.perm x.face < 4 = image_below g.perm hg x.face o.face in
              let lw' : image g.perm w < 4 = image_below g.perm hg w lw in
              let hr : IsPermutationOfFour other.0.perm = permutes old m new table table' h vs n numbered vs' n' numbered' c c' match (other_side x g) other.0 lt' lf' other.1 in
              let made : Some (gluing_under s other.0 g) ≡ Some g' = sym (ap (option_map (λ k. gluing_under s k g)) other.1) ∙ sym (ap (option_and_then (moved_gluing old m x s)) e) ∙ moved in
              let is : gluing_under s other.0 g ≡ g' = cc in
              let p' : Place = carried g p in
              let spot_p' : IsSpot (length old) (carried g p) = record { v = image g.perm w; is = refl; below = lt'; low = lw' } in
              let through : carried other.0 (carried g p) ≡ one_vertex g'.tet (image g'.perm v) =
              (λ i. record { tet = other.0.tet; vertices = sym (through_them other.0.perm g.perm s.perm (w ∷ []) hr hg hs (lw, tt)) i })
              ∙ (λ i. record { tet = other.0.tet; vertices = map (image (gluing_under s other.0 g).perm) (there_again s.perm (v ∷ []) hs (lv, tt) i) }) ∙ (λ i. one_vertex (is i).tet (image (is i).perm v)) in
              let tie' : Tie (carried g p) (one_vertex g'.tet (image g'.perm v)) = record {
                face = image g.perm x.face;
                by = other.0;
                tet = lt';
                place = (lw', tt);
                low = lf';
                off = has-images g.perm (w ∷ []) x.face hg (lw, tt) o.face ∙ off;
                occurs = other.1;
                is = sym through;
              } in
              let e0 : class_of vs p ≡ c = under old m new table table' h vs n numbered vs' n' numbered' c c' match p (one_vertex t v) spot_p tie own in
              let sign : S signs (carried g p) ≡ behind (is_odd g.perm) (S signs p) = agree_at old vs c signs are (length old) p spot_p x.face g o.face off e0 e in
              let spot' : IsSpot (length new) (one_vertex g'.tet (image g'.perm v)) = new_spot old m new table table' h vs n numbered vs' n' numbered' c c' match (carried g p) (one_vertex g'.tet (image g'.perm v)) spot_p' tie' in
              let own' : class_of vs' (one_vertex g'.tet (image g'.perm v)) ≡ c' = over old m new table table' h vs n numbered vs' n' numbered' c c' match (carried g p) (one_vertex g'.tet (image g'.perm v)) spot_p' tie' (next_class g e e0) in (
                spot',
                own',
                value_is old m new table table' h vs n numbered vs' n' numbered' c c' match signs are (carried g p) (one_vertex g'.tet (image g'.perm v)) spot' own' tie' ∙ ap (flip (is_odd other.0.perm)) sign ∙ across_sign other.0.perm g.perm s.perm hr hg hs (S signs p)
                    ∙ (λ i. behind (is_odd (is i).perm) (flip (is_odd s.perm) (S signs p))) ∙ ap (behind (is_odd g'.perm)) (sym (value_is old m new table table' h vs n numbered vs' n' numbered' c c' match signs are p (one_vertex t v) spot_q own tie)),
              )
            where
              next_class : (g : Gluing) → glue old x ≡ Some g → class_of vs p ≡ c → class_of vs (carried g p) ≡ c
              next_class g e e0 =
                  let step = joined_step old p x.face (carried g p) (across_by old p x.face g e off) in
                  sym ((one_class old vs n numbered p (carried g p) spot_p (record { v = image g.perm w; is = refl; below = table.in_range x g e; low = image_below g.perm (table.permutes x g e) w lw })).1 step) ∙ e0

      inside : IsInner old m (face_at t f) → Agrees
      inside i = go (tie_shape_by old m new table h u.0 (one_vertex t v) u.1)
        where
          u : (p : Place) × Tie p (one_vertex t v)
          u = tied old m new table table' h vs n numbered vs' n' numbered' c c' match signs are (one_vertex t v) spot_q own

          spot_u : IsSpot (length old) u.0
          spot_u = old_spot old m new table table' h vs n numbered vs' n' numbered' c c' match signs are u.0 (one_vertex t v) spot_q u.1

          go : (KeptTie old m new table h u.0 (one_vertex t v) × (u.1.by.perm ≡ identity)) ⊎ ((a : FacetTie old m new table h u.0 (one_vertex t v)) × (u.1.by.perm ≡ crossing a.i a.j a.f.labels)) → Agrees
          go (inl k) = absurd (let low : rank_without (old_tets old m) u.0.tet < kept old m = closed_up_small old m u.0.tet table (fine old m new table h) h.core k.0.tet k.0.stays in
              let tets : kept old m + i.j ≡ rank_without (old_tets old m) u.0.tet = (λ z. (i.is z).tet) ∙ ap (λ (r : Place). r.tet) k.0.is in omega arith)
          go (inr (a, ea)) =
              let tets : kept old m + i.j ≡ kept old m + a.j = (λ z. (i.is z).tet) ∙ ap (λ (r : Place). r.tet) a.to in
              let ij : i.j ≡ a.j = omega arith in
              let separate : a.j ≢ i.l = (λ z. i.separate (ij ∙ z)) in
              let lj : a.j < 5 = small_label old m new table h a.j a.less in
              let ll : i.l < 5 = small_label old m new table h i.l i.l_small in
              let face : vertex_of (at a.j) i.l ≡ f = (λ z. vertex_of (at (sym ij z)) i.l) ∙ (λ z. (i.is z).face) in
              let nl = Labels.new_labels a.j lj in
              let off_l : has a.ls i.l ≡ false = sym (has-vertices a.j (Labels.ascending a.j) nl a.ls i.l a.small a.off_j ll (λ z. separate (sym z))) ∙ ap (has (map (vertex_of (at a.j)) a.ls)) face ∙ ap (λ (r : Place). has r.vertices f) (sym a.to) ∙ off_one v f ne in
              let st : Steps new (in_facet (at a.j) a.ls) (vertex_of (at a.j) i.l) (in_facet (at i.l) a.ls) = steps_across new (in_facet (at a.j) a.ls) (vertex_of (at a.j) i.l) (in_facet (at i.l) a.ls) (new_step old m new table h a.j i.l a.ls a.less i.l_small separate a.small a.off_j off_l) in
              let there : Some st.gluing ≡ Some g' = sym st.glued ∙ (λ z. glue new (face_at ((sym a.to z).tet) (face z))) ∙ glued' in
              let same : st.gluing ≡ g' = cc in
              let lands : in_facet (at i.l) a.ls ≡ one_vertex g'.tet (image g'.perm v) = st.lands ∙ (λ z. carried (same z) (sym a.to z)) in
              let tie0 : Tie (in_facet a.f a.ls) (in_facet (at i.l) a.ls) = facet_tie old m new table h a.i i.l a.f a.ls a.old_is i.l_small a.small a.off_i off_l in
              let by0 : tie0.by.perm ≡ crossing a.i i.l a.f.labels = facet_tie_by old m new table h a.i i.l a.f a.ls a.old_is i.l_small a.small a.off_i off_l in
              let tie' : Tie (in_facet a.f a.ls) (one_vertex g'.tet (image g'.perm v)) = record { face = tie0.face; by = tie0.by; tet = tie0.tet; place = tie0.place; low = tie0.low; off = tie0.off; occurs = tie0.occurs; is = sym lands ∙ tie0.is } in
              let spot_p : IsSpot (length old) (in_facet a.f a.ls) = subst (IsSpot (length old)) a.from spot_u in
              let e0 : class_of vs u.0 ≡ c = under old m new table table' h vs n numbered vs' n' numbered' c c' match u.0 (one_vertex t v) spot_u u.1 own in
              let own' : class_of vs' (one_vertex g'.tet (image g'.perm v)) ≡ c' = over old m new table table' h vs n numbered vs' n' numbered' c c' match (in_facet a.f a.ls) (one_vertex g'.tet (image g'.perm v)) spot_p tie' (ap (class_of vs) (sym a.from) ∙ e0) in
              let spot' : IsSpot (length new) (one_vertex g'.tet (image g'.perm v)) = new_spot old m new table table' h vs n numbered vs' n' numbered' c c' match (in_facet a.f a.ls) (one_vertex g'.tet (image g'.perm v)) spot_p tie' in
              let inner : Some (record { tet = kept old m + i.l; perm = over_new i.j i.l }) ≡ Some g' = sym (h.inner i.j i.l i.j_small i.l_small i.separate) ∙ ap (glue new) i.is ∙ glued' in
              let perm : over_new i.j i.l ≡ g'.perm = (let z : record { tet = kept old m + i.l; perm = over_new i.j i.l } ≡ g' = cc in ap (λ (r : Gluing). r.perm) z) in
              let parity : is_odd (crossing a.i i.l a.f.labels) ≡ behind (is_odd g'.perm) (is_odd (crossing a.i a.j a.f.labels)) =
              new_parity a.i a.j i.l a.f.labels a.old_is.is.labels lj ll (core_apart old m new table table' h vs n numbered vs' n' numbered' c c' match a.i a.j a.f a.old_is a.less) (core_apart old m new table table' h vs n numbered vs' n' numbered' c c' match a.i i.l a.f a.old_is i.l_small) separate
              ∙ (λ z. behind (is_odd (over_new (sym ij z) i.l)) (is_odd (crossing a.i a.j a.f.labels))) ∙ (λ z. behind (is_odd (perm z)) (is_odd (crossing a.i a.j a.f.labels))) in (
                spot',
                own',
                value_is old m new table table' h vs n numbered vs' n' numbered' c c' match signs are (in_facet a.f a.ls) (one_vertex g'.tet (image g'.perm v)) spot' own' tie' ∙ ap (λ (b : List ℕ). flip (is_odd b) (S signs (in_facet a.f a.ls))) by0 ∙ ap (λ b. flip b (S signs (in_facet a.f a.ls))) parity
                    ∙ flip_behind (is_odd g'.perm) (is_odd (crossing a.i a.j a.f.labels)) (S signs (in_facet a.f a.ls))
                    ∙ ap (behind (is_odd g'.perm)) ((λ z. flip (is_odd (sym ea z)) (S signs (sym a.from z))) ∙ sym (value_is old m new table table' h vs n numbered vs' n' numbered' c c' match signs are u.0 (one_vertex t v) spot_q own u.1)),
              )

      agrees : Agrees
      agrees = elim (covered old m (face_at t f) table (fine old m new table h) h.core (let l : t < length new = spot_q.below in let k = h.length_is in omega arith) lf) [
        | inl o ↦ outside o
        | inr i ↦ inside i
      ]

    pub signs_forth : IsOrientableLink new vs' c'
    signs_forth = signs_from new vs' c' numbered'.one_each (value old m new table table' h vs n numbered vs' n' numbered' c c' match signs are) (one_value old m new table table' h vs n numbered vs' n' numbered' c c' match signs are) (λ t v f g lv lf ne own e.
        let a = agrees t v f g lv lf ne own e in
        listed_at new vs' c' numbered'.one_each (value old m new table table' h vs n numbered vs' n' numbered' c c' match signs are) (one_value old m new table table' h vs n numbered vs' n' numbered' c c' match signs are) (one_vertex g.tet (image g.perm v)) a.0 a.1 ∙ a.2
        ∙ ap (behind (is_odd g.perm)) (sym (listed_at new vs' c' numbered'.one_each (value old m new table table' h vs n numbered vs' n' numbered' c c' match signs are) (one_value old m new table table' h vs n numbered vs' n' numbered' c c' match signs are) (one_vertex t v) (spot_q t v f g lv lf ne own e) own)))

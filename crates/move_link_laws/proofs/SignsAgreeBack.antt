-- The signs that images give agree across faces, so signs of the corresponding link give signs of the link.
use Rattle.std.proofs.Common.{◌≡◌, ℕ, ◌*◌, ◌<◌, ◌≤◌, Bool, false, List, [], ◌∷◌, length, map, Option, Some, None, ◌⊎◌, inl, inr, refl, sym, ap, ◌∙◌}
use Rattle.std.specs.Prelude.{option_map, option_and_then, slice_index}
use Rattle.std.proofs.lemmas.Bool.{cases_lt}
use Rattle.table_definitions.specs.Lists.{has}
use Rattle.table_definitions.specs.Permutation.{IsPermutationOfFour, image, identity, is_odd}
use Rattle.table_definitions.specs.Table.{Gluing, Row, Face, glue, other_side, IsTable}
use Rattle.table_definitions.specs.Classes.{IsNumbering}
use Rattle.table_definitions.specs.Places.{Place, carried, SameVertex}
use Rattle.table_definitions.specs.Relabelling.{face_under, gluing_under}
use Rattle.table_definitions.proofs.ChainLaws.{across_by, joined_step, has-images}
use Rattle.table_definitions.proofs.Faces.{face_at}
use Rattle.table_definitions.proofs.Permutations.{image_below}
use Rattle.table_definitions.proofs.TableLaws.{glued_tet}
use Rattle.skeleton_definitions.specs.Links.{vertex_number, AreLinkSigns, IsOrientableLink}
use Rattle.move_definitions.specs.Moves.{Move, Facet, IsMoved, vertex_of, place_after, kept_place_after, facet_gluing, moved_gluing}
use Rattle.move_definitions.proofs.StandIns.{facet_image_after-new, image_after-kept}
use Rattle.move_laws.proofs.Labels.{AreLabels, HasLabel, label_at}
use Rattle.move_laws.proofs.Covered.{image_after-old}
use Rattle.move_laws.proofs.SecondStand.{crossing, other_stands}
use Rattle.move_laws.proofs.Parities.{flip, behind, back_sign, flip_behind}
use Rattle.move_link_laws.proofs.Labelled.{in_facet, has-vertices}
use Rattle.move_link_laws.proofs.Ties.{fine, new_at, old_at, Ties, KeptTie, FacetTie}
use Rattle.move_link_laws.proofs.TieShapes.{tie_shape_by, facet_tie, facet_tie_by}
use Rattle.move_link_laws.proofs.Joined.{through}
use Rattle.skeleton_laws.proofs.Spots.{class_of, IsSpot, one_class}
use Rattle.surface_laws.proofs.Vertices.{one_vertex}
use Rattle.move_link_laws.proofs.TiedSpots.{tie_spot, Match}
use Rattle.move_link_laws.proofs.StarLabels.{off_one}
use Rattle.move_link_laws.proofs.FacetSteps.{FacetStep, facet_step}
use Rattle.move_link_laws.proofs.ListedSigns.{S, agree_at, listed_at, signs_from}
use Rattle.move_link_laws.proofs.LinkSignsBack.{permutes, over, tied, value, value_is, one_value}

module _ (old : List Row) (m : Move) (new : List Row) (table : IsTable old) (table' : IsTable new) (h : IsMoved old m new)
    (vs : List ℕ) (n : ℕ) (numbered : IsNumbering (4 * length old) (SameVertex old) vs n) (vs' : List ℕ) (n' : ℕ) (numbered' : IsNumbering (4 * length new) (SameVertex new) vs' n') (c c' : ℕ)
    (match : Match old m new table h vs n numbered vs' n' numbered' c c') (signs : List Bool) (are : AreLinkSigns new vs' c' signs) where
  abbrev Tie : Place → Place → Type 0
  Tie p q = Ties old m new table h p q

  abbrev at : ℕ → Facet
  at j = new_at old m new table h j

  -- a vertex of the old table, a face of it and the gluing there
  module _ (t v f : ℕ) (g : Gluing) (lv : v < 4) (lf : f < 4) (ne : v ≡ f → ⊥) (own : slice_index vs (vertex_number t v) ≡ c) (glued : glue old (record { tet = t; face = f }) ≡ Some g) where
    abbrev p : Place
    p = one_vertex t v

    abbrev x : Face
    x = face_at t f

    lt : t < length old
    lt = glued_tet old (record { tet = t; face = f }) g glued

    spot_p : IsSpot (length old) (one_vertex t v)
    spot_p = record { v = v; is = refl; below = lt; low = lv }

    hg : IsPermutationOfFour g.perm
    hg = table.permutes (face_at t f) g glued

    lt' : g.tet < length old
    lt' = table.in_range (face_at t f) g glued

    lv' : image g.perm v < 4
    lv' = image_below g.perm hg v lv

    spot_p' : IsSpot (length old) (one_vertex g.tet (image g.perm v))
    spot_p' = record { v = image g.perm v; is = refl; below = lt'; low = lv' }

    own' : class_of vs (one_vertex g.tet (image g.perm v)) ≡ c
    own' = sym ((one_class old vs n numbered (one_vertex t v) (one_vertex g.tet (image g.perm v)) spot_p spot_p').1 (joined_step old (one_vertex t v) f (one_vertex g.tet (image g.perm v)) (across_by old (one_vertex t v) f g glued (off_one v f ne)))) ∙ own

    abbrev Agrees : Type 0
    Agrees = value old m new table table' h vs n numbered vs' n' numbered' c c' match signs are (one_vertex g.tet (image g.perm v)) spot_p' own' ≡ behind (is_odd g.perm) (value old m new table table' h vs n numbered vs' n' numbered' c c' match signs are (one_vertex t v) spot_p own)

    outside : (s : Gluing) → place_after old m (face_at t f) ≡ Some s → Agrees
    outside s occurs =
        let other = other_stands old m table (fine old m new table h) h.core (face_at t f) s g lf occurs glued in
        let hs : IsPermutationOfFour s.perm = permutes old m new table table' h vs n numbered vs' n' numbered' c c' match signs are (face_at t f) s lt lf occurs in
        let lf' : image g.perm f < 4 = image_below g.perm hg f lf in
        let hr : IsPermutationOfFour other.0.perm = permutes old m new table table' h vs n numbered vs' n' numbered' c c' match signs are (other_side (face_at t f) g) other.0 lt' lf' other.1 in
        let q : Place = carried s (one_vertex t v) in
        let q' : Place = carried other.0 (one_vertex g.tet (image g.perm v)) in
        let tie : Tie (one_vertex t v) (carried s (one_vertex t v)) = record { face = f; by = s; tet = lt; place = (lv, tt); low = lf; off = off_one v f ne; occurs = occurs; is = refl } in
        let tie' : Tie (one_vertex g.tet (image g.perm v)) (carried other.0 (one_vertex g.tet (image g.perm v))) = record {
          face = image g.perm f;
          by = other.0;
          tet = lt';
          place = (lv', tt);
          low = lf';
          off = has-images g.perm (v ∷ []) f hg (lv, tt) lf ∙ off_one v f ne;
          occurs = other.1;
          is = refl;
        } in
        let made : glue new (face_under s (face_at t f)) ≡ Some (gluing_under s other.0 g) = h.outer (face_at t f) s lt lf occurs ∙ ap (option_and_then (moved_gluing old m (face_at t f) s)) glued ∙ ap (option_map (λ k. gluing_under s k g)) other.1 in
        let lands : carried (gluing_under s other.0 g) q ≡ q' = (λ i. record { tet = other.0.tet; vertices = through other.0.perm g.perm s.perm (v ∷ []) hr hg hs (lv, tt) i }) in
        let spot_q : IsSpot (length new) (carried s (one_vertex t v)) = tie_spot old m new table h (one_vertex t v) (carried s (one_vertex t v)) spot_p tie in
        let sign : S signs q' ≡ behind (is_odd (gluing_under s other.0 g).perm) (S signs q) = ap (S signs) (sym lands) ∙ agree_at new vs' c' signs are (length new) q spot_q (image s.perm f) (gluing_under s other.0 g) (image_below s.perm hs f lf)
        (has-images s.perm (v ∷ []) f hs (lv, tt) lf ∙ off_one v f ne) (over old m new table table' h vs n numbered vs' n' numbered' c c' match signs are (one_vertex t v) q spot_p tie own) made in
        value_is old m new table table' h vs n numbered vs' n' numbered' c c' match signs are (one_vertex g.tet (image g.perm v)) q' spot_p' own' tie' ∙ ap (flip (is_odd other.0.perm)) sign ∙ back_sign other.0.perm g.perm s.perm hr hg hs (S signs q) ∙ ap (behind (is_odd g.perm)) (sym (value_is old m new table table' h vs n numbered vs' n' numbered' c c' match signs are (one_vertex t v) q spot_p own tie))

    inside : place_after old m (face_at t f) ≡ None → Agrees
    inside none = go (tie_shape_by old m new table h (one_vertex t v) u.0 u.1)
      where
        u : (q : Place) × Tie (one_vertex t v) q
        u = tied old m new table table' h vs n numbered vs' n' numbered' c c' match signs are (one_vertex t v) spot_p own

        go : (KeptTie old m new table h (one_vertex t v) u.0 × (u.1.by.perm ≡ identity)) ⊎ ((a : FacetTie old m new table h (one_vertex t v) u.0) × (u.1.by.perm ≡ crossing a.i a.j a.f.labels)) → Agrees
        go (inl k) = absurd (let z : None ≡ Some (kept_place_after old m t) = sym none ∙ image_after-kept old m (face_at t f) k.0.stays in cc)
        go (inr (a, ea)) = elim (cases_lt k (length m.core)) [ inl less ↦ absurd (never less) | inr more ↦ across_it more ]
          where
            hf : AreLabels a.i a.f.labels
            hf = a.old_is.is.labels

            k : ℕ
            k = image a.f.labels f

            label : HasLabel a.i a.f.labels f
            label = label_at a.i a.f.labels hf f lf

            x_is : face_at a.f.tet f ≡ face_at t f
            x_is = ap (λ (r : Place). face_at r.tet f) (sym a.from)

            never : k < length m.core → ⊥
            never less =
                let some : place_after old m (face_at t f) ≡ Some (facet_gluing old m a.f k) = ap (place_after old m) (sym x_is) ∙ image_after-old old m a.i a.f f (fine old m new table h) h.core a.old_is.low a.old_is.high a.old_is.found
                ∙ facet_image_after-new old m a.f k less in
                let z : None ≡ Some (facet_gluing old m a.f k) = sym none ∙ some in cc

            off_k : has a.ls k ≡ false
            off_k = sym (has-vertices a.i a.f.labels hf a.ls k a.small a.off_i label.small label.present) ∙ ap (has (map (vertex_of a.f) a.ls)) label.vertex ∙ ap (λ (r : Place). has r.vertices f) (sym a.from) ∙ off_one v f ne

            across_it : length m.core ≤ k → Agrees
            across_it more =
                let b = old_at old m new table h k more label.small in
                let st : FacetStep old m new table h a.i k a.f b.0 a.ls =
                facet_step old m new table h a.i k a.f b.0 a.ls a.old_is b.1 (λ z. label.present (sym z)) a.small a.off_i off_k in
                let here : Some st.by ≡ Some g = sym st.glued ∙ (λ z. glue old (face_at (sym a.from z).tet (label.vertex z))) ∙ glued in
                let same : st.by ≡ g = cc in
                let lands : in_facet b.0 a.ls ≡ one_vertex g.tet (image g.perm v) = sym st.lands ∙ (λ z. carried (same z) (sym a.from z)) in
                let tie0 : Tie (in_facet b.0 a.ls) (in_facet (at a.j) a.ls) = facet_tie old m new table h k a.j b.0 a.ls b.1 a.less a.small off_k a.off_j in
                let by0 : tie0.by.perm ≡ crossing k a.j b.0.labels = facet_tie_by old m new table h k a.j b.0 a.ls b.1 a.less a.small off_k a.off_j in
                let tie' : Tie (one_vertex g.tet (image g.perm v)) u.0 = record {
                  face = tie0.face;
                  by = tie0.by;
                  low = tie0.low;
                  tet = lt';
                  place = (lv', tt);
                  off = ap (λ (z : Place). has z.vertices tie0.face) (sym lands) ∙ tie0.off;
                  occurs = ap (λ (z : Place). place_after old m (face_at z.tet tie0.face)) (sym lands) ∙ tie0.occurs;
                  is = a.to ∙ tie0.is ∙ ap (carried tie0.by) lands;
                } in
                value_is old m new table table' h vs n numbered vs' n' numbered' c c' match signs are (one_vertex g.tet (image g.perm v)) u.0 spot_p' own' tie' ∙ ap (λ (o : List ℕ). flip (is_odd o) (S signs u.0)) by0 ∙ ap (λ o. flip o (S signs u.0)) (st.parity a.j a.less ∙ (λ z. behind (is_odd (same z).perm) (is_odd (crossing a.i a.j a.f.labels))))
                ∙ flip_behind (is_odd g.perm) (is_odd (crossing a.i a.j a.f.labels)) (S signs u.0)
                ∙ ap (behind (is_odd g.perm)) (ap (λ (o : List ℕ). flip (is_odd o) (S signs u.0)) (sym ea) ∙ sym (value_is old m new table table' h vs n numbered vs' n' numbered' c c' match signs are (one_vertex t v) u.0 spot_p own u.1))

    agrees : Agrees
    agrees = by_stand (place_after old m (face_at t f)) refl
      where
        by_stand : (o : Option Gluing) → place_after old m (face_at t f) ≡ o → Agrees
        by_stand (Some s) e = outside s e
        by_stand None e = inside e

  pub signs_back : IsOrientableLink old vs c
  signs_back = signs_from old vs c numbered.one_each (value old m new table table' h vs n numbered vs' n' numbered' c c' match signs are) (one_value old m new table table' h vs n numbered vs' n' numbered' c c' match signs are) (λ t v f g lv lf ne own e.
      listed_at old vs c numbered.one_each (value old m new table table' h vs n numbered vs' n' numbered' c c' match signs are) (one_value old m new table table' h vs n numbered vs' n' numbered' c c' match signs are) (one_vertex g.tet (image g.perm v)) (spot_p' t v f g lv lf ne own e) (own' t v f g lv lf ne own e) ∙ agrees t v f g lv lf ne own e
      ∙ ap (behind (is_odd g.perm)) (sym (listed_at old vs c numbered.one_each (value old m new table table' h vs n numbered vs' n' numbered' c c' match signs are) (one_value old m new table table' h vs n numbered vs' n' numbered' c c' match signs are) (one_vertex t v) (spot_p t v f g lv lf ne own e) own)))

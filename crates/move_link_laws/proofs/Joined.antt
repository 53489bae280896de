-- A step of the old table corresponds to steps of the new one.
use Rattle.std.proofs.Common.{◌≡◌, ℕ, ◌<◌, ◌≤◌, false, List, [], ◌∷◌, length, map, Option, Some, None, inl, inr, refl, sym, ap, ◌∙◌, subst}
use Rattle.std.specs.Prelude.{option_map, option_and_then}
use Rattle.std.specs.List.{AllByRecursion}
use Rattle.std.proofs.lemmas.Bool.{cases_lt}
use Rattle.table_definitions.specs.Lists.{has}
use Rattle.table_definitions.specs.Permutation.{IsPermutationOfFour, image, inverse, compose}
use Rattle.table_definitions.specs.Table.{Gluing, Row, Face, glue, other_side, IsTable}
use Rattle.table_definitions.specs.Places.{Place, IsPlace, carried, across, IsJoined}
use Rattle.table_definitions.specs.Relabelling.{face_under, gluing_under}
use Rattle.table_definitions.proofs.TableLaws.{glued_face}
use Rattle.table_definitions.proofs.ChainLaws.{Steps, steps_across, across_by, joined_refl, joined_trans, joined_step, images_below, has-images}
use Rattle.table_definitions.proofs.Faces.{face_at}
use Rattle.table_definitions.proofs.PermutationLaws.{image-of_inverse}
use Rattle.table_definitions.proofs.Permutations.{image_below, image-compose, compose_permutes, inverse_permutes}
use Rattle.move_definitions.specs.Moves.{Move, Facet, IsMoved, vertex_of, place_after, kept_place_after, facet_gluing, moved_gluing}
use Rattle.move_definitions.proofs.StandIns.{facet_image_after-new, image_after-kept}
use Rattle.move_laws.proofs.Labels.{AreLabels, HasLabel, label_at}
use Rattle.move_laws.proofs.Covered.{image_after-old}
use Rattle.move_laws.proofs.Shapes.{stand_permutes}
use Rattle.move_laws.proofs.SecondStand.{other_stands}
use Rattle.move_link_laws.proofs.Labelled.{in_facet, has-vertices}
use Rattle.move_link_laws.proofs.Ties.{fine, new_at, IsOld, old_at, old_step, Ties, tie_permutes, FacetTie}
use Rattle.move_link_laws.proofs.TieShapes.{tie_shape, facet_tie}
use Rattle.move_link_laws.proofs.TiesOnce.{stands_once}

-- the image of a gluing commutes with the images of vertices
pub through : (r g s : List ℕ) (vs : List ℕ) → IsPermutationOfFour r → IsPermutationOfFour g → IsPermutationOfFour s → AllByRecursion (λ v. v < 4) vs
    → map (image (compose r (compose g (inverse s)))) (map (image s) vs) ≡ map (image r) (map (image g) vs)
through r g s [] hr hg hs a = refl
through r g s (v ∷ vs) hr hg hs a =
    let lv : image s v < 4 = image_below s hs v a.0 in
    let one : image (compose r (compose g (inverse s))) (image s v) ≡ image r (image g v) =
    image-compose r (compose g (inverse s)) (compose_permutes g (inverse s) hg (inverse_permutes s hs)) (image s v) lv
    ∙ ap (image r) (image-compose g (inverse s) (inverse_permutes s hs) (image s v) lv ∙ ap (image g) (image-of_inverse s v hs a.0)) in
    λ i. one i ∷ through r g s vs hr hg hs a.1 i

module _ (old : List Row) (m : Move) (new : List Row) (table : IsTable old) (h : IsMoved old m new) where
  abbrev Tie : Place → Place → Type 0
  Tie p q = Ties old m new table h p q

  abbrev Old : ℕ → Facet → Type 0
  Old i f = IsOld old m new table h i f

  abbrev at : ℕ → Facet
  at j = new_at old m new table h j

  pub tie_place : (p q : Place) → Tie p q → IsPlace q
  tie_place p q t = subst IsPlace (sym t.is) (images_below t.by.perm p.vertices (tie_permutes old m new table h p q t) t.place)

  -- the image of the gluing g of x, and of the places in x
  module _ (x : Face) (s g : Gluing) (lt : x.tet < length old) (lf : x.face < 4) (occurs : place_after old m x ≡ Some s) (glued : glue old x ≡ Some g) where
    pub other : (r : Gluing) × (place_after old m (other_side x g) ≡ Some r)
    other = other_stands old m table (fine old m new table h) h.core x s g lf occurs glued

    hg : IsPermutationOfFour g.perm
    hg = table.permutes x g glued

    hs : IsPermutationOfFour s.perm
    hs = stand_permutes old m table (fine old m new table h) h.core x s lt lf occurs

    lt' : g.tet < length old
    lt' = table.in_range x g glued

    lf' : image g.perm x.face < 4
    lf' = image_below g.perm hg x.face lf

    hr : IsPermutationOfFour other.0.perm
    hr = stand_permutes old m table (fine old m new table h) h.core (other_side x g) other.0 lt' lf' other.1

    made : glue new (face_under s x) ≡ Some (gluing_under s other.0 g)
    made = h.outer x s lt lf occurs ∙ ap (option_and_then (moved_gluing old m x s)) glued ∙ ap (option_map (λ r. gluing_under s r g)) other.1

    module _ (vs : List ℕ) (place : AllByRecursion (λ v. v < 4) vs) (off : has vs x.face ≡ false) where
      abbrev here : Place
      here = record { tet = x.tet; vertices = vs }

      over : carried (gluing_under s other.0 g) (carried s here) ≡ carried other.0 (carried g here)
      over = λ i. record { tet = other.0.tet; vertices = through other.0.perm g.perm s.perm vs hr hg hs place i }

      pub tie_here : Tie here (carried s here)
      tie_here = record { face = x.face; by = s; tet = lt; place = place; low = lf; off = off; occurs = occurs; is = refl }

      pub tie_there : Tie (carried g here) (carried other.0 (carried g here))
      tie_there = record {
        face = image g.perm x.face;
        by = other.0;
        tet = lt';
        place = images_below g.perm vs hg place;
        low = lf';
        off = has-images g.perm vs x.face hg place lf ∙ off;
        occurs = other.1;
        is = refl;
      }

      pub step_new : across new (carried s here) (image s.perm x.face) ≡ Some (carried other.0 (carried g here))
      step_new = across_by new (carried s here) (image s.perm x.face) (gluing_under s other.0 g) made (has-images s.perm vs x.face hs place lf ∙ off) ∙ ap (λ (p : Place). Some p) over

      pub step_old : across old here x.face ≡ Some (carried g here)
      step_old = across_by old here x.face g glued off

  pub record Follows (p' q : Place) : Type 0 where
    pub there : Place
    pub tie : Tie p' there
    pub joined : IsJoined new q there

  pub step_over : (p p' q : Place) (f : ℕ) → across old p f ≡ Some p' → Tie p q → Follows p' q
  step_over p p' q f e t = by_stand (place_after old m x) refl
    where
      st : Steps old p f p'
      st = steps_across old p f p' e

      x : Face
      x = face_at p.tet f

      lf : f < 4
      lf = glued_face old x st.gluing table.four_faces st.glued

      outside : (s : Gluing) → place_after old m x ≡ Some s → Follows p' q
      outside s occurs =
          let there : Place = carried (other x s st.gluing t.tet lf occurs st.glued).0 (carried st.gluing p) in
          let first : IsJoined new q (carried s p) = stands_once old m new table h p q (carried s p) t (tie_here x s st.gluing t.tet lf occurs st.glued p.vertices t.place st.off) in
          let step : IsJoined new (carried s p) there = joined_step new (carried s p) (image s.perm f) there (step_new x s st.gluing t.tet lf occurs st.glued p.vertices t.place st.off) in
          record {
            there = there;
            tie = subst (λ (r : Place). Tie r there) (sym st.lands) (tie_there x s st.gluing t.tet lf occurs st.glued p.vertices t.place st.off);
            joined = joined_trans new q (carried s p) there first step;
          }

      inside : place_after old m x ≡ None → FacetTie old m new table h p q → Follows p' q
      inside none a = elim (cases_lt k (length m.core)) [ inl less ↦ absurd (never less) | inr more ↦ go more ]
        where
          hf : AreLabels a.i a.f.labels
          hf = a.old_is.is.labels

          k : ℕ
          k = image a.f.labels f

          label : HasLabel a.i a.f.labels f
          label = label_at a.i a.f.labels hf f lf

          x_is : face_at a.f.tet f ≡ x
          x_is = ap (λ (r : Place). face_at r.tet f) (sym a.from)

          never : k < length m.core → ⊥
          never less =
              let some : place_after old m x ≡ Some (facet_gluing old m a.f k) = ap (place_after old m) (sym x_is) ∙ image_after-old old m a.i a.f f (fine old m new table h) h.core a.old_is.low a.old_is.high a.old_is.found
              ∙ facet_image_after-new old m a.f k less in
              let z : None ≡ Some (facet_gluing old m a.f k) = sym none ∙ some in cc

          off_k : has a.ls k ≡ false
          off_k = sym (has-vertices a.i a.f.labels hf a.ls k a.small a.off_i label.small label.present) ∙ ap (has (map (vertex_of a.f) a.ls)) label.vertex ∙ ap (λ (r : Place). has r.vertices f) (sym a.from) ∙ st.off

          go : length m.core ≤ k → Follows p' q
          go more =
              let g = old_at old m new table h k more label.small in
              let step : across old (in_facet a.f a.ls) (vertex_of a.f k) ≡ Some (in_facet g.0 a.ls) = old_step old m new table h a.i k a.f g.0 a.ls a.old_is g.1 (λ z. label.present (sym z)) a.small a.off_i off_k in
              let here : Some p' ≡ Some (in_facet g.0 a.ls) = sym e ∙ (λ i. across old (a.from i) (sym label.vertex i)) ∙ step in
              let is : p' ≡ in_facet g.0 a.ls = cc in
              record {
                there = in_facet (at a.j) a.ls;
                tie = subst (λ (r : Place). Tie r (in_facet (at a.j) a.ls)) (sym is) (facet_tie old m new table h k a.j g.0 a.ls g.1 a.less a.small off_k a.off_j);
                joined = subst (λ (r : Place). IsJoined new q r) a.to (joined_refl new q);
              }

      by_stand : (o : Option Gluing) → place_after old m x ≡ o → Follows p' q
      by_stand (Some s) occurs = outside s occurs
      by_stand None none = elim (tie_shape old m new table h p q t) [
        | inl k ↦ absurd (let z : None ≡ Some (kept_place_after old m p.tet) = sym none ∙ image_after-kept old m x k.stays in cc)
        | inr a ↦ inside none a
      ]

-- Faces and the steps between them, by the faces' numbers.
use Rattle.std.proofs.Common.{◌≡◌, ◌↔◌, inl, inr, false, ℕ, zero, suc, ◌*◌, ◌/◌, ◌%◌, ◌<◌, List, [], ◌∷◌, length, Option, Some, None, refl, sym, ap, ◌∙◌, arith, subst}
use Rattle.std.specs.Prelude.{◌==◌, option_map, option_and_then}
use Rattle.table_definitions.specs.Permutation.{image, inverse}
use Rattle.table_definitions.specs.Table.{Gluing, Face, Row, glue, other_side, inverse_gluing, IsTable, face_number}
use Rattle.table_definitions.specs.Places.{face_of, SameFace}
use Rattle.table_definitions.proofs.PermutationLaws.{image_below, image-of_inverse}
use Rattle.table_definitions.proofs.Faces.{face_of-number, number-face_of}
use Rattle.std.proofs.lemmas.Bool.{ne_eqb}
use Rattle.skeleton_class_laws.proofs.CrossingLemmas.{crossed_face-other}
use Rattle.skeleton_class_laws.specs.Crossings.{crossed_face}
use Rattle.skeleton_class_laws.specs.Neighbours.{led, IsLed, IsReversible}

module _ (rows : List Row) (table : IsTable rows) where
  -- the face that a step reaches
  record Leads (i f j : ℕ) : Type 0 where
    first : f ≡ 0
    gluing : Gluing
    glued : glue rows (face_of i) ≡ Some gluing
    there : other_side (face_of i) gluing ≡ face_of j
    number : face_number (other_side (face_of i) gluing) ≡ j
    inside : j < 4 * length rows

  leads_by : (i j : ℕ) (o : Option Gluing) → glue rows (face_of i) ≡ o → option_map (λ g. face_number (other_side (face_of i) g)) o ≡ Some j → Leads i 0 j
  leads_by i j None h e = absurd cc
  leads_by i j (Some g) h e =
      let number : face_number (other_side (face_of i) g) ≡ j = cc in
      let own : i % 4 < 4 = omega arith in
      let v : image g.perm (i % 4) < 4 = image_below g.perm (i % 4) (table.permutes (face_of i) g h) own in
      let t : g.tet < length rows = table.in_range (face_of i) g h in
      let inside : j < 4 * length rows = omega arith in
      record {
        first = refl;
        gluing = g;
        glued = h;
        there = sym (face_of-number (other_side (face_of i) g) v) ∙ ap face_of number;
        number = number;
        inside = inside;
      }

  leads : (i f j : ℕ) → crossed_face rows i f ≡ Some j → Leads i f j
  unfolding crossed_face
  leads i zero j e = leads_by i j (glue rows (face_of i)) refl e
  leads i (suc f) j e = let other : (suc f == 0) ≡ false = ne_eqb (suc f) 0 (λ h. omega arith) in absurd (let z : None ≡ Some j = sym (crossed_face-other rows i (suc f) other) ∙ e in cc)

  glued_leads : (i j : ℕ) (g : Gluing) → glue rows (face_of i) ≡ Some g → other_side (face_of i) g ≡ face_of j → crossed_face rows i 0 ≡ Some j
  unfolding crossed_face
  glued_leads i j g h e = ap (λ (o : Option Gluing). option_map (λ k. face_number (other_side (face_of i) k)) o) h ∙ ap (λ (x : Face). Some (face_number x)) e ∙ ap Some (number-face_of j)

  -- the step back
  back : (i f j : ℕ) → crossed_face rows i f ≡ Some j → crossed_face rows j 0 ≡ Some i
  back i f j e =
      let s = leads i f j e in
      let own : i % 4 < 4 = omega arith in
      let glued : glue rows (face_of j) ≡ Some (inverse_gluing (face_of i) s.gluing) =
      subst (λ (x : Face). glue rows x ≡ Some (inverse_gluing (face_of i) s.gluing)) s.there (table.leads_back (face_of i) s.gluing s.glued) in
      let home : image (inverse s.gluing.perm) (image s.gluing.perm (i % 4)) ≡ i % 4 = image-of_inverse s.gluing.perm (i % 4) (table.permutes (face_of i) s.gluing s.glued) own in
      let face : other_side (face_of j) (inverse_gluing (face_of i) s.gluing) ≡ face_of i =
      ap (λ (x : Face). other_side x (inverse_gluing (face_of i) s.gluing)) (sym s.there) ∙ (λ k. record { tet = i / 4; face = home k }) in
      glued_leads j i (inverse_gluing (face_of i) s.gluing) glued face

  pub faces_reversible : IsReversible (4 * length rows) (crossed_face rows)
  faces_reversible i f j l m e = let four : 0 < 4 = omega arith in ((leads i f j e).inside, (0, four, back i f j e))

  pub few_choices : (i f j : ℕ) → i < 4 * length rows → crossed_face rows i f ≡ Some j → f < 4
  few_choices i f j l e = let z : f ≡ 0 = (leads i f j e).first in omega arith

  -- what steps reach from a face is the face itself or the face glued to it
  same_by : (fs : List ℕ) (i j : ℕ) → led (crossed_face rows) i fs ≡ Some j → SameFace rows i j
  same_by [] i j e = inl (let s : i ≡ j = cc in s)
  same_by (f ∷ fs) i j e = by_step (λ k s. same_by fs k j s) (crossed_face rows i f) refl e
    where
      onward : (k : ℕ) → crossed_face rows i f ≡ Some k → SameFace rows k j → SameFace rows i j
      onward k h (inl same) = let s = leads i f k h in inr (s.gluing, s.glued, s.there ∙ ap face_of same)
      onward k h (inr (g, glued, there)) =
          let two : Some j ≡ Some i = sym (glued_leads k j g glued there) ∙ back i f k h in
          inl (let s : i ≡ j = cc in s)

      by_step : ((k : ℕ) → led (crossed_face rows) k fs ≡ Some j → SameFace rows k j) → (o : Option ℕ) → crossed_face rows i f ≡ o → option_and_then (λ k. led (crossed_face rows) k fs) o ≡ Some j → SameFace rows i j
      by_step later None h s = absurd cc
      by_step later (Some k) h s = onward k h (later k s)

  led_by_same : (i j : ℕ) → SameFace rows i j → IsLed (crossed_face rows) i j
  led_by_same i j (inl e) = ([], ap Some e)
  led_by_same i j (inr (g, glued, there)) = (0 ∷ [], ap (λ (o : Option ℕ). option_and_then (λ k. Some k) o) (glued_leads i j g glued there))

  pub led_is_same_face : (i j : ℕ) → IsLed (crossed_face rows) i j ↔ SameFace rows i j
  led_is_same_face i j = (λ h. same_by h.0 i j h.1, led_by_same i j)

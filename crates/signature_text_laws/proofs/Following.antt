-- A walk-ordered table is joined from the sections of its text in the order of its traversal.
use Rattle.std.proofs.Common.{◌≡◌, ℕ, ◌+◌, ◌*◌, ◌/◌, ◌%◌, ◌<◌, ◌≤◌, List, [], ◌∷◌, ◌++◌, length, get_or, Option, Some, None, refl, sym, ap, ◌∙◌, subst, arith, ⊎_elim}
use Rattle.std.specs.Prelude.{nat_lt, slice_set, ◌&&◌, ◌==◌}
use Rattle.std.proofs.lemmas.Bool.{eqb-true, cases_eq, and_parts}
use borrow.Author.Tests.{ltb-true, ltb-false}
use Rattle.std.proofs.lemmas.List.{length-set}
use Rattle.basic_lemmas.proofs.Truths.{by_bool, if_true, if_false}
use Rattle.table_definitions.specs.Lists.{same_list}
use Rattle.table_definitions.specs.Permutation.{identity, image, IsPermutationOfFour}
use Rattle.table_definitions.specs.Table.{Gluing, Row, IsTable, glue, other_side, inverse_gluing, same_face, is_face_before, face_number}
use Rattle.table_definitions.proofs.ListFacts.{same_list-true}
use Rattle.table_definitions.proofs.Permutations.{image_below}
use Rattle.signature_text_laws.specs.Slots.{meet_at}
use Rattle.signature_text_laws.specs.Walks.{Walking, with_type, take_glued, take_entry, take_face}
use Rattle.signature_text_laws.proofs.WalkLaws.{some_same}
use Rattle.signature_text_laws.proofs.Joined.{BothMet, met_here, met_elsewhere, met_other, met_kept, bound_here, bound_elsewhere, bound_kept, other_face}
use Rattle.signature_text_laws.proofs.Walked.{before_at}
use Rattle.table_definitions.proofs.Retained.{not_true}
use Rattle.table_definitions.proofs.Faces.{there_and_back, back_again, number-face_of, face_of-number}
use Rattle.table_definitions.specs.Places.{face_of}

-- what the traversal does at a face
pub data Took (rows : List Row) (k : ℕ) (w v : Walking) : Type 0 where
  took_none : glue rows (face_of k) ≡ None → with_type 0 w ≡ v → Took rows k w v
  took_met : (g : Gluing) → glue rows (face_of k) ≡ Some g → face_number (other_side (face_of k) g) < k → w ≡ v → Took rows k w v
  took_old : (g : Gluing) → glue rows (face_of k) ≡ Some g → k ≤ face_number (other_side (face_of k) g) → g.tet < w.seen → record w { types = w.types ++ 2 ∷ []; gluings = w.gluings ++ g ∷ [] } ≡ v → Took rows k w v
  took_new : (g : Gluing) → glue rows (face_of k) ≡ Some g → k ≤ face_number (other_side (face_of k) g) → g.tet ≡ w.seen → g.perm ≡ identity → record w { seen = w.seen + 1; types = w.types ++ 1 ∷ [] } ≡ v → Took rows k w v

pub took : (rows : List Row) (k : ℕ) (w v : Walking) → IsTable rows → take_face rows (face_of k) w ≡ Some v → (k / 4 < w.seen) × Took rows k w v
took rows k w v table e = by_bool (nat_lt (k / 4) w.seen)
    (λ seen. (ltb-true (k / 4) w.seen seen, entry (glue rows (face_of k)) refl (sym (if_true (nat_lt (k / 4) w.seen) (take_entry (face_of k) (glue rows (face_of k)) w) None seen) ∙ e)))
    (λ unseen. absurd (let never = sym (if_false (nat_lt (k / 4) w.seen) (take_entry (face_of k) (glue rows (face_of k)) w) None unseen) ∙ e in cc))
  where
    glued : (g : Gluing) → glue rows (face_of k) ≡ Some g → take_glued (face_of k) g w ≡ Some v → Took rows k w v
    glued g h f =
        let face = image_below g.perm (table.permutes (face_of k) g h) (k % 4) (omega arith) in
        let test = before_at k g face in
        by_bool (is_face_before (other_side (face_of k) g) (face_of k))
        (λ before. took_met g h (ltb-true (face_number (other_side (face_of k) g)) k (sym test ∙ before)) (some_same w v (sym (if_true _ _ _ before) ∙ f)))
        (λ later.
        let late : k ≤ face_number (other_side (face_of k) g) = ltb-false (face_number (other_side (face_of k) g)) k (sym test ∙ later) in
        let rest = sym (if_false _ _ _ later) ∙ f in
        by_bool (nat_lt g.tet w.seen)
        (λ old. took_old g h late (ltb-true g.tet w.seen old) (some_same _ v (sym (if_true _ _ _ old) ∙ rest)))
        (λ new.
        let last = sym (if_false _ _ _ new) ∙ rest in
        by_bool ((g.tet == w.seen) && same_list g.perm identity)
        (λ next. let parts = and_parts (g.tet == w.seen) (same_list g.perm identity) next in
        took_new g h late (eqb-true g.tet w.seen parts.0) (same_list-true g.perm identity parts.1) (some_same _ v (sym (if_true _ _ _ next) ∙ last)))
        (λ none. absurd (let never = sym (if_false _ _ _ none) ∙ last in cc))))

    entry : (o : Option Gluing) → glue rows (face_of k) ≡ o → take_entry (face_of k) o w ≡ Some v → Took rows k w v
    entry None h f = took_none h (some_same (with_type 0 w) v f)
    entry (Some g) h f = glued g h f

-- exactly the faces below index k, and the faces that they are glued to, were read, with the gluings of the table
pub record FollowsMet (rows : List Row) (k : ℕ) (read_faces : List (Option (Option Gluing))) : Type 0 where
  pub size : length read_faces ≡ 4 * length rows
  pub before : (p : ℕ) → p < k → get_or read_faces p None ≡ Some (glue rows (face_of p))
  pub partner : (p : ℕ) (g : Gluing) → k ≤ p → p < 4 * length rows → glue rows (face_of p) ≡ Some g → face_number (other_side (face_of p) g) < k → get_or read_faces p None ≡ Some (Some g)
  pub unmet : (p : ℕ) → k ≤ p → p < 4 * length rows → ((g : Gluing) → glue rows (face_of p) ≡ Some g → k ≤ face_number (other_side (face_of p) g)) → get_or read_faces p None ≡ None

-- the face at index k is glued back to the one at index p
pub record Paired (rows : List Row) (p k : ℕ) (h : Gluing) : Type 0 where
  pub glued : glue rows (face_of k) ≡ Some (inverse_gluing (face_of p) h)
  pub place : face_number (other_side (face_of k) (inverse_gluing (face_of p) h)) ≡ p
  pub back : inverse_gluing (face_of k) (inverse_gluing (face_of p) h) ≡ h

paired : (rows : List Row) (p k : ℕ) (h : Gluing) → IsTable rows → glue rows (face_of p) ≡ Some h → face_number (other_side (face_of p) h) ≡ k → Paired rows p k h
paired rows p k h table e same =
    let permutes = table.permutes (face_of p) h e in
    let there : face_of k ≡ other_side (face_of p) h = ap face_of (sym same) ∙ face_of-number (other_side (face_of p) h) (other_face p h permutes) in
    record {
      glued = ap (glue rows) there ∙ table.leads_back (face_of p) h e;
      place = ap (λ y. face_number (other_side y (inverse_gluing (face_of p) h))) there ∙ ap face_number (there_and_back (face_of p) h permutes (omega arith)) ∙ number-face_of p;
      back = ap (λ y. inverse_gluing y (inverse_gluing (face_of p) h)) there ∙ back_again (face_of p) h permutes;
    }

pub gluing_same : (g h : Gluing) → Some g ≡ Some h → g ≡ h
gluing_same g h e = cc

-- a face that was read from its other side
pub met_follows : (rows : List Row) (k : ℕ) (g : Gluing) (read_faces : List (Option (Option Gluing))) → IsTable rows → k < 4 * length rows → FollowsMet rows k read_faces → glue rows (face_of k) ≡ Some g → face_number (other_side (face_of k) g) < k
    → FollowsMet rows (k + 1) read_faces
met_follows rows k g read_faces table l f e early = record {
  size = f.size;
  before = λ p m. ⊎_elim (λ (same : p ≡ k). ap (λ q. get_or read_faces q None) same ∙ f.partner k g (omega arith) l e early ∙ ap Some (sym e) ∙ ap (λ q. Some (glue rows (face_of q))) (sym same)) (λ (a : p ≡ k → ⊥). f.before p (omega arith)) (cases_eq p k);
  partner = λ p h low high glued m. ⊎_elim
      (λ (same : face_number (other_side (face_of p) h) ≡ k).
      let q = paired rows p k h table glued same in
      let back : inverse_gluing (face_of p) h ≡ g = gluing_same (inverse_gluing (face_of p) h) g (sym q.glued ∙ e) in
      let there : face_number (other_side (face_of k) g) ≡ p = ap (λ x. face_number (other_side (face_of k) x)) (sym back) ∙ q.place in
      absurd (omega (arith, there)))
      (λ (a : face_number (other_side (face_of p) h) ≡ k → ⊥). f.partner p h (omega arith) high glued (omega arith))
      (cases_eq (face_number (other_side (face_of p) h)) k);
  unmet = λ p low high far. f.unmet p (omega arith) high (λ h glued. let m = far h glued in omega (arith, m));
}

-- a boundary face
pub bound_follows : (rows : List Row) (k : ℕ) (read_faces : List (Option (Option Gluing))) → IsTable rows → k < 4 * length rows → FollowsMet rows k read_faces → glue rows (face_of k) ≡ None
    → FollowsMet rows (k + 1) (slice_set read_faces (face_number (face_of k)) (Some None))
bound_follows rows k read_faces table l f e = record {
  size = length-set read_faces (face_number (face_of k)) (Some None) ∙ f.size;
  before = λ p m. ⊎_elim
      (λ (same : p ≡ k). ap (λ q. get_or (slice_set read_faces (face_number (face_of k)) (Some None)) q None) same ∙ bound_here read_faces k inside ∙ ap Some (sym e) ∙ ap (λ q. Some (glue rows (face_of q))) (sym same))
      (λ (a : p ≡ k → ⊥). bound_kept read_faces k free_k p (glue rows (face_of p)) (f.before p (omega arith)))
      (cases_eq p k);
  partner = λ p h low high glued m. ⊎_elim
      (λ (same : face_number (other_side (face_of p) h) ≡ k). absurd (let q = paired rows p k h table glued same in let c = sym e ∙ q.glued in cc))
      (λ (a : face_number (other_side (face_of p) h) ≡ k → ⊥). bound_kept read_faces k free_k p (Some h) (f.partner p h (omega arith) high glued (omega arith)))
      (cases_eq (face_number (other_side (face_of p) h)) k);
  unmet = λ p low high far. bound_elsewhere read_faces k p (λ same. absurd (omega arith)) ∙ f.unmet p (omega arith) high (λ h glued. let m = far h glued in omega (arith, m));
}
  where
    inside : k < length read_faces
    inside = let size = f.size in omega (arith, size)

    free_k : get_or read_faces k None ≡ None
    free_k = f.unmet k (omega arith) l (λ h glued. absurd (let c = sym e ∙ glued in cc))

-- a face both sides of which are read now
pub both_unmet : (rows : List Row) (k : ℕ) (g : Gluing) (read_faces : List (Option (Option Gluing))) → IsTable rows → k < 4 * length rows → FollowsMet rows k read_faces → glue rows (face_of k) ≡ Some g → k ≤ face_number (other_side (face_of k) g)
    → BothMet read_faces k g
both_unmet rows k g read_faces table l f e late = record {
  inside = let size = f.size in omega (arith, size);
  inside_other = let size = f.size in omega (arith, size, in_range, face);
  permutes = permutes;
  free_here = f.unmet k (omega arith) l (λ h glued. let same = gluing_same g h (sym e ∙ glued) in subst (λ (x : Gluing). k ≤ face_number (other_side (face_of k) x)) same late);
  free_other = f.unmet (face_number (other_side (face_of k) g)) late (omega (arith, in_range, face)) far;
  separate = not_true (same_face (other_side (face_of k) g) (face_of k)) (table.separate (face_of k) g e);
}
  where
    permutes : IsPermutationOfFour g.perm
    permutes = table.permutes (face_of k) g e

    in_range : g.tet < length rows
    in_range = table.in_range (face_of k) g e

    face : image g.perm (k % 4) < 4
    face = image_below g.perm (table.permutes (face_of k) g e) (k % 4) (omega arith)

    far : (h : Gluing) → glue rows (face_of (face_number (other_side (face_of k) g))) ≡ Some h → k ≤ face_number (other_side (face_of (face_number (other_side (face_of k) g))) h)
    far h glued =
        let q = paired rows k (face_number (other_side (face_of k) g)) g table e refl in
        let same = gluing_same (inverse_gluing (face_of k) g) h (sym q.glued ∙ glued) in
        let there = q.place in
        let P : Gluing → Type 0 = λ x. k ≤ face_number (other_side (face_of (face_number (other_side (face_of k) g))) x) in
        subst P same (omega (arith, there))

pub both_follows : (rows : List Row) (k : ℕ) (g : Gluing) (read_faces : List (Option (Option Gluing))) → IsTable rows → FollowsMet rows k read_faces → glue rows (face_of k) ≡ Some g → BothMet read_faces k g
    → FollowsMet rows (k + 1) (meet_at read_faces (face_of k) g)
both_follows rows k g read_faces table f e b = record {
  size = length-set _ _ _ ∙ length-set _ _ _ ∙ f.size;
  before = λ p m. ⊎_elim
      (λ (same : p ≡ k). ap (λ q. get_or (meet_at read_faces (face_of k) g) q None) same ∙ met_here read_faces k g b ∙ ap Some (sym e) ∙ ap (λ q. Some (glue rows (face_of q))) (sym same))
      (λ (a : p ≡ k → ⊥). met_kept read_faces k g b p (glue rows (face_of p)) (f.before p (omega arith)))
      (cases_eq p k);
  partner = λ p h low high glued m. ⊎_elim
      (λ (same : face_number (other_side (face_of p) h) ≡ k).
      let q = paired rows p k h table glued same in
      let back : inverse_gluing (face_of p) h ≡ g = gluing_same (inverse_gluing (face_of p) h) g (sym q.glued ∙ e) in
      let there : face_number (other_side (face_of k) g) ≡ p = ap (λ x. face_number (other_side (face_of k) x)) (sym back) ∙ q.place in
      let home : inverse_gluing (face_of k) g ≡ h = ap (inverse_gluing (face_of k)) (sym back) ∙ q.back in
      ap (λ m. get_or (meet_at read_faces (face_of k) g) m None) (sym there) ∙ met_other read_faces k g b ∙ ap (λ x. Some (Some x)) home)
      (λ (a : face_number (other_side (face_of p) h) ≡ k → ⊥). met_kept read_faces k g b p (Some h) (f.partner p h (omega arith) high glued (omega arith)))
      (cases_eq (face_number (other_side (face_of p) h)) k);
  unmet = λ p low high far. met_elsewhere read_faces k g p (λ same. absurd (omega arith)) (λ same. absurd (at_other p same far)) ∙ f.unmet p (omega arith) high (λ h glued. let m = far h glued in omega (arith, m));
}
  where
    at_other : (p : ℕ) → p ≡ face_number (other_side (face_of k) g) → ((h : Gluing) → glue rows (face_of p) ≡ Some h → k + 1 ≤ face_number (other_side (face_of p) h)) → ⊥
    at_other p same far =
        let q = paired rows k p g table e (sym same) in
        let m = far (inverse_gluing (face_of k) g) q.glued in
        let there = q.place in
        omega (arith, m, there)

-- A relabelling keeps what chains join.
use Rattle.std.proofs.Common.{◌≡◌, ℕ, ◌<◌, List, length, map, Some, sym, ap, ◌∙◌, subst, subst₂, arith}
use Rattle.std.specs.Prelude.{◌↔◌, option_map}
use Rattle.table_definitions.specs.Permutation.{IsPermutationOfFour, image, inverse}
use Rattle.table_definitions.specs.Table.{Gluing, Row, glue, IsTable}
use Rattle.table_definitions.specs.Places.{Place, IsPlace, carried, across, IsJoined}
use Rattle.table_definitions.specs.Relabelling.{Relabelling, IsRelabelling, Carries, relabelled_place, face_under, gluing_under}
use Rattle.table_definitions.proofs.Carried.{image_in_range, perm_permutes, comes_from, images_apart}
use Rattle.table_definitions.proofs.ChainLaws.{Steps, steps_across, across_by, joined_refl, joined_step, joined_trans, kept_along, images_below, has-images, images_back}
use Rattle.table_definitions.proofs.Faces.{face_at}
use Rattle.table_definitions.proofs.Permutations.{inverse_permutes}
use Rattle.table_definitions.proofs.TableLaws.{glued_face}
use Rattle.signature_laws.specs.Between.{inverted}
use Rattle.signature_laws.proofs.Back.{inverted_stands, inverted_relabelling, carries_back}
use Rattle.move_link_laws.proofs.JoinedBack.{there_again}
use Rattle.move_link_laws.proofs.Joined.{through}

-- the image of a place
abbrev pub under : Relabelling → Place → Place
under by p = carried (relabelled_place by p.tet) p

-- a place of the table
pub record IsWithin (rows : List Row) (p : Place) : Type 0 where
  pub below : p.tet < length rows
  pub place : IsPlace p

module _ (old : List Row) (new : List Row) (table : IsTable old) (by : Relabelling) (is : IsRelabelling (length old) by) (c : Carries by old new) where
  pub permutes : (t : ℕ) → t < length old → IsPermutationOfFour (relabelled_place by t).perm
  permutes t l = perm_permutes (length old) by is t l

  pub within_new : (p : Place) → IsWithin old p → IsWithin new (under by p)
  within_new p w = record { below = (let e = c.same_length in let l = image_in_range (length old) by is p.tet w.below in omega arith); place = images_below (relabelled_place by p.tet).perm p.vertices (permutes p.tet w.below) w.place }

  record Led (p q : Place) : Type 0 where
    within : IsWithin old q
    joined : IsJoined new (under by p) (under by q)

  led_step : (p q : Place) (f : ℕ) (r : Place) → Led p q → across old q f ≡ Some r → Led p r
  led_step p q f r a e = record {
    within = subst (IsWithin old) (sym st.lands) (record { below = table.in_range (face_at q.tet f) st.gluing st.glued; place = images_below st.gluing.perm q.vertices hg a.within.place });
    joined = joined_trans new (under by p) (under by q) (under by r) a.joined (joined_step new (under by q) (image s.perm f) (under by r) step);
  }
    where
      st : Steps old q f r
      st = steps_across old q f r e

      lf : f < 4
      lf = glued_face old (face_at q.tet f) st.gluing table.four_faces st.glued

      hg : IsPermutationOfFour st.gluing.perm
      hg = table.permutes (face_at q.tet f) st.gluing st.glued

      s : Gluing
      s = relabelled_place by q.tet

      t : Gluing
      t = relabelled_place by st.gluing.tet

      hs : IsPermutationOfFour s.perm
      hs = permutes q.tet a.within.below

      ht : IsPermutationOfFour t.perm
      ht = permutes st.gluing.tet (table.in_range (face_at q.tet f) st.gluing st.glued)

      made : glue new (face_under s (face_at q.tet f)) ≡ Some (gluing_under s t st.gluing)
      made = c.glued (face_at q.tet f) a.within.below lf ∙ ap (option_map (λ g. gluing_under (relabelled_place by q.tet) (relabelled_place by g.tet) g)) st.glued

      over : carried (gluing_under s t st.gluing) (carried s q) ≡ under by r
      over = (λ i. record { tet = t.tet; vertices = through t.perm st.gluing.perm s.perm q.vertices ht hg hs a.within.place i }) ∙ ap (under by) (sym st.lands)

      step : across new (under by q) (image s.perm f) ≡ Some (under by r)
      step = across_by new (under by q) (image s.perm f) (gluing_under s t st.gluing) made (has-images s.perm q.vertices f hs a.within.place lf ∙ st.off) ∙ ap (λ (x : Place). Some x) over

  pub joined_under_it : (p q : Place) → IsWithin old p → IsJoined old p q → IsJoined new (under by p) (under by q)
  joined_under_it p q w j = (kept_along old (Led p) (led_step p) j.0 p q (record { within = w; joined = joined_refl new (under by p) }) j.1).joined

  -- each place of the new table is the image of a place
  pub came_from : (q : Place) → IsWithin new q → (p : Place) × IsWithin old p × (under by p ≡ q)
  came_from q w =
      let t = comes_from (length old) by is q.tet (let e = c.same_length in let l = w.below in omega arith) in
      let s : List ℕ = (relabelled_place by t.0).perm in
      let hs : IsPermutationOfFour (relabelled_place by t.0).perm = permutes t.0 t.1 in (
        record { tet = t.0; vertices = map (image (inverse s)) q.vertices },
        record { below = t.1; place = images_below (inverse s) q.vertices (inverse_permutes s hs) w.place },
        (λ i. record { tet = t.2 i; vertices = there_again s q.vertices hs w.place i }),
      )

  -- places with the same image are equal
  pub one_under : (p q : Place) → IsWithin old p → IsWithin old q → under by p ≡ under by q → p ≡ q
  one_under p q w v e =
      let tets : p.tet ≡ q.tet = images_apart (length old) by is p.tet q.tet w.below v.below (ap (λ (r : Place). r.tet) e) in
      let hq = permutes q.tet v.below in
      let s : List ℕ = (relabelled_place by q.tet).perm in
      let lists : map (image (relabelled_place by p.tet).perm) p.vertices ≡ map (image (relabelled_place by q.tet).perm) q.vertices = ap (λ (r : Place). r.vertices) e in
      let same : map (image (relabelled_place by q.tet).perm) p.vertices ≡ map (image (relabelled_place by q.tet).perm) q.vertices = (λ i. map (image (relabelled_place by (sym tets i)).perm) p.vertices) ∙ lists in
      let vertices : p.vertices ≡ q.vertices = sym (images_back s p.vertices hq w.place) ∙ ap (λ (vs : List ℕ). map (image (inverse s)) vs) same ∙ images_back s q.vertices hq v.place in
      λ i. record { tet = tets i; vertices = vertices i }

module _ (old : List Row) (new : List Row) (table : IsTable old) (table' : IsTable new) (by : Relabelling) (is : IsRelabelling (length old) by) (c : Carries by old new) where
  back_to : (p : Place) → IsWithin old p → under (inverted (length old) by) (under by p) ≡ p
  back_to p w =
      let e = inverted_stands (length old) by is p.tet w.below in
      ap (λ (g : Gluing). carried g (under by p)) e ∙ (λ i. record { tet = p.tet; vertices = images_back (relabelled_place by p.tet).perm p.vertices (perm_permutes (length old) by is p.tet w.below) w.place i })

  pub joined_both : (p q : Place) → IsWithin old p → IsWithin old q → IsJoined old p q ↔ IsJoined new (under by p) (under by q)
  joined_both p q w v = (
    joined_under_it old new table by is c p q w,
    (λ j. subst₂ (IsJoined old) (back_to p w) (back_to q v)
        (joined_under_it new old table' (inverted (length old) by) (subst (λ n. IsRelabelling n (inverted (length old) by)) (sym c.same_length) (inverted_relabelling (length old) by is)) (carries_back old new by table is c)
        (under by p) (under by q) (within_new old new table by is c p w) j)),
  )

-- If the components of one table are matched with different components of another, each isomorphic to its match, the
-- tables are isomorphic.
use Rattle.std.proofs.Common.{◌≡◌, ℕ, ◌<◌, ◌≤◌, ◌⊎◌, inl, inr, List, [], length, Contains, Option, Some, None, option_map, slice_index, slice_index_or, subst, sym, ap, ap₂, refl, ◌∙◌, arith, le_antisymm}
use Rattle.std.proofs.lemmas.Bool.{cases_lt}
use Rattle.basic_lemmas.proofs.Members.{contains_at}
use Rattle.table_definitions.specs.Permutation.{IsPermutationOfFour, image, inverse, compose}
use Rattle.table_definitions.specs.Table.{Gluing, Row, Face, IsTable, glue}
use Rattle.table_definitions.specs.Relabelling.{Relabelling, IsRelabelling, AreIsomorphic, Carries, relabelled_place, face_under, gluing_under}
use Rattle.table_definitions.proofs.Carried.{image_in_range, images_apart, perm_permutes}
use Rattle.table_definitions.proofs.Faces.{face_at}
use Rattle.signature_laws.specs.Between.{made}
use Rattle.signature_laws.proofs.Standing.{made_stands, made_relabelling}
use Rattle.component_definitions.specs.Parts.{Part, place_in, renumbered, IsPart, AreParts}
use Rattle.component_laws.proofs.Numbers.{place_of, fits}
use Rattle.component_laws.proofs.Members.{part_at, numbers_at, StandsAt, part_is, stands_at, one_place, member_of, member_below, glued_member, length-part, glue-part}

-- each component is matched with a different one, by a relabelling
pub record Matches (P Q : List Part) : Type 0 where
  pub to : ℕ → ℕ
  pub in_range : (i : ℕ) → i < length P → to i < length Q
  pub separate : (i j : ℕ) → i < length P → j < length P → to i ≡ to j → i ≡ j
  pub by : ℕ → Relabelling
  pub relabels : (i : ℕ) → i < length P → IsRelabelling (length (part_at P i).rows) (by i)
  pub carries : (i : ℕ) → i < length P → Carries (by i) (part_at P i).rows (part_at Q (to i)).rows

-- each component is matched with a different one that is isomorphic to it
pub record IsMatching (P Q : List Part) : Type 0 where
  pub to : ℕ → ℕ
  pub in_range : (i : ℕ) → i < length P → to i < length Q
  pub separate : (i j : ℕ) → i < length P → j < length P → to i ≡ to j → i ≡ j
  pub relabelled : (i : ℕ) → i < length P → AreIsomorphic (part_at P i).rows (part_at Q (to i)).rows

module _ (P Q : List Part) (m : IsMatching P Q) where
  taken : (i : ℕ) → (i < length P) ⊎ (length P ≤ i) → Relabelling
  taken i (inl l) = (m.relabelled i l).0
  taken i (inr exceeded) = record { images = []; perms = [] }

  taken_relabels : (i : ℕ) (d : (i < length P) ⊎ (length P ≤ i)) → i < length P →
      IsRelabelling (length (part_at P i).rows) (taken i d) × Carries (taken i d) (part_at P i).rows (part_at Q (m.to i)).rows
  unfolding taken
  taken_relabels i (inl l) k = ((m.relabelled i l).1, (m.relabelled i l).2)
  taken_relabels i (inr exceeded) k = absurd (omega arith)

  pub matches : Matches P Q
  matches = record {
    to = m.to;
    in_range = m.in_range;
    separate = m.separate;
    by = λ i. taken i (cases_lt i (length P));
    relabels = λ i l. (taken_relabels i (cases_lt i (length P)) l).0;
    carries = λ i l. (taken_relabels i (cases_lt i (length P)) l).1;
  }

module _ (first second : List Row) (P Q : List Part) (tf : IsTable first) (ts : IsTable second) (p : AreParts first P) (q : AreParts second Q) (m : Matches P Q) where
  part_p : (i : ℕ) → i < length P → IsPart first (part_at P i)
  part_p i l = part_is first tf P p i l

  part_q : (i : ℕ) → i < length P → IsPart second (part_at Q (m.to i))
  part_q i l = part_is second ts Q q (m.to i) (m.in_range i l)

  rows_p : (i : ℕ) → i < length P → length (part_at P i).rows ≡ length (numbers_at P i)
  rows_p i l = length-part first tf (part_at P i) (part_p i l)

  rows_q : (i : ℕ) → i < length P → length (numbers_at Q (m.to i)) ≡ length (part_at P i).rows
  rows_q i l = sym (length-part second ts (part_at Q (m.to i)) (part_q i l)) ∙ (m.carries i l).same_length

  -- the image of tetrahedron k of component i
  abbrev pub stand : ℕ → ℕ → Gluing
  stand i k = record { tet = slice_index (numbers_at Q (m.to i)) (slice_index (m.by i).images k); perm = slice_index_or (m.by i).perms k [] }

  row_below : (i k : ℕ) → i < length P → k < length (numbers_at P i) → k < length (part_at P i).rows
  row_below i k l lk = subst (λ n. k < n) (sym (rows_p i l)) lk

  image_below : (i k : ℕ) → i < length P → k < length (numbers_at P i) → slice_index (m.by i).images k < length (numbers_at Q (m.to i))
  image_below i k l lk = subst (λ n. slice_index (m.by i).images k < n) (sym (rows_q i l)) (image_in_range (length (part_at P i).rows) (m.by i) (m.relabels i l) k (row_below i k l lk))

  -- this image is in the component that is matched with component i
  stand_at : (i k : ℕ) → i < length P → k < length (numbers_at P i) → StandsAt Q (stand i k).tet
  stand_at i k l lk = record { i = m.to i; in_parts = m.in_range i l; k = slice_index (m.by i).images k; in_numbers = image_below i k l lk; is = refl }

  stand_below : (i k : ℕ) → i < length P → k < length (numbers_at P i) → (stand i k).tet < length second
  unfolding stand_at
  stand_below i k l lk = member_below second ts (part_at Q (m.to i)) (part_q i l) (stand i k).tet (member_of second ts Q q (stand i k).tet (stand_at i k l lk))

  same_place : (i j k n : ℕ) → i ≡ j → i < length P → k < length (numbers_at P i) → n < length (numbers_at P j) → slice_index (m.by i).images k ≡ slice_index (m.by j).images n → k ≡ n
  same_place i j k n e l lk ln same = images_apart (length (part_at P i).rows) (m.by i) (m.relabels i l) k n (row_below i k l lk)
      (row_below i n l (subst (λ a. n < length (numbers_at P a)) (sym e) ln)) (same ∙ ap (λ a. slice_index (m.by a).images n) (sym e))

  stands_apart : (t u : ℕ) (a : StandsAt P t) (b : StandsAt P u) → (stand a.i a.k).tet ≡ (stand b.i b.k).tet → t ≡ u
  unfolding stand_at
  stands_apart t u a b e = sym a.is ∙ ap₂ (λ i k. slice_index (numbers_at P i) k) parts places ∙ b.is
    where
      other : StandsAt Q (stand a.i a.k).tet
      other = subst (StandsAt Q) (sym e) (stand_at b.i b.k b.in_parts b.in_numbers)

      moved : (x y : ℕ) (f : x ≡ y) (s : StandsAt Q y) → ((subst (StandsAt Q) (sym f) s).i ≡ s.i) × ((subst (StandsAt Q) (sym f) s).k ≡ s.k)
      moved x y f s = (refl, refl)

      both : (m.to a.i ≡ m.to b.i) × (slice_index (m.by a.i).images a.k ≡ slice_index (m.by b.i).images b.k)
      both = let o = one_place second ts Q q (stand a.i a.k).tet (stand_at a.i a.k a.in_parts a.in_numbers) other in
          let w = moved (stand a.i a.k).tet (stand b.i b.k).tet e (stand_at b.i b.k b.in_parts b.in_numbers) in (o.0 ∙ w.0, o.1 ∙ w.1)

      parts : a.i ≡ b.i
      parts = m.separate a.i b.i a.in_parts b.in_parts both.0

      places : a.k ≡ b.k
      places = same_place a.i b.i a.k b.k parts a.in_parts a.in_numbers b.in_numbers both.1

  -- ---- the image of a tetrahedron

  chosen : (t : ℕ) → (t < length first) ⊎ (length first ≤ t) → Gluing
  chosen t (inl l) = let s = stands_at first tf P p t l in stand s.i s.k
  chosen t (inr exceeded) = record { tet = 0; perm = [] }

  pub stand_for : ℕ → Gluing
  stand_for t = chosen t (cases_lt t (length first))

  chosen_is : (t : ℕ) (c : (t < length first) ⊎ (length first ≤ t)) (s : StandsAt P t) → t < length first → chosen t c ≡ stand s.i s.k
  unfolding chosen
  chosen_is t (inl m) s l = let o = one_place first tf P p t (stands_at first tf P p t m) s in ap₂ stand o.0 o.1
  chosen_is t (inr exceeded) s l = absurd (omega arith)

  pub stand_is : (t : ℕ) (s : StandsAt P t) → t < length first → stand_for t ≡ stand s.i s.k
  unfolding stand_for
  stand_is t s l = chosen_is t (cases_lt t (length first)) s l

  for_below : (t : ℕ) → t < length first → (stand_for t).tet < length second
  for_below t l = let s = stands_at first tf P p t l in subst (λ (g : Gluing). g.tet < length second) (sym (stand_is t s l)) (stand_below s.i s.k s.in_parts s.in_numbers)

  for_apart : (t u : ℕ) → t < length first → u < length first → (stand_for t).tet ≡ (stand_for u).tet → t ≡ u
  for_apart t u l k e = let a = stands_at first tf P p t l in let b = stands_at first tf P p u k in
      stands_apart t u a b (ap (λ (g : Gluing). g.tet) (sym (stand_is t a l)) ∙ e ∙ ap (λ (g : Gluing). g.tet) (stand_is u b k))

  pub matched_fits : length first ≤ length second
  matched_fits = fits (length first) (length second) (λ t. (stand_for t).tet) for_below for_apart

  for_permutes : (t : ℕ) → t < length first → IsPermutationOfFour (stand_for t).perm
  for_permutes t l = let s = stands_at first tf P p t l in subst (λ (g : Gluing). IsPermutationOfFour g.perm) (sym (stand_is t s l))
      (perm_permutes (length (part_at P s.i).rows) (m.by s.i) (m.relabels s.i s.in_parts) s.k (row_below s.i s.k s.in_parts s.in_numbers))

  -- ---- the gluings

  -- the image of a gluing of component i, within the component and in the whole table
  in_part : (i k : ℕ) → Gluing → Gluing
  in_part i k g = gluing_under (relabelled_place (m.by i) k) (relabelled_place (m.by i) (place_in (numbers_at P i) g.tet)) (renumbered (numbers_at P i) g)

  carried_in_part : (i k f : ℕ) → i < length P → k < length (numbers_at P i) → f < 4 →
      option_map (renumbered (numbers_at Q (m.to i))) (glue second (face_at (stand i k).tet (image (stand i k).perm f))) ≡ option_map (in_part i k) (glue first (face_at (slice_index (numbers_at P i) k) f))
  unfolding in_part
  carried_in_part i k f l lk lf = sym (glue-part second ts (part_at Q (m.to i)) (part_q i l) (slice_index (m.by i).images k) (image (slice_index_or (m.by i).perms k []) f) (image_below i k l lk))
      ∙ (m.carries i l).glued (face_at k f) (row_below i k l lk) lf
      ∙ ap (option_map (λ g. gluing_under (relabelled_place (m.by i) k) (relabelled_place (m.by i) g.tet) g)) (glue-part first tf (part_at P i) (part_p i l) k f lk)
      ∙ twice (glue first (face_at (slice_index (numbers_at P i) k) f))
    where
      twice : (o : Option Gluing) → option_map (λ g. gluing_under (relabelled_place (m.by i) k) (relabelled_place (m.by i) g.tet) g) (option_map (renumbered (numbers_at P i)) o) ≡
          option_map (λ (g : Gluing). gluing_under (relabelled_place (m.by i) k) (relabelled_place (m.by i) (place_in (numbers_at P i) g.tet)) (renumbered (numbers_at P i) g)) o
      twice None = refl
      twice (Some g) = refl

  -- if both faces are glued, the gluing of the second table is the image of that of the first
  both_glued : (i k f : ℕ) (g h : Gluing) → i < length P → k < length (numbers_at P i) → glue first (face_at (slice_index (numbers_at P i) k) f) ≡ Some g →
      glue second (face_at (stand i k).tet (image (stand i k).perm f)) ≡ Some h → renumbered (numbers_at Q (m.to i)) h ≡ in_part i k g → h ≡ gluing_under (stand i k) (stand_for g.tet) g
  unfolding in_part stand_at
  both_glued i k f g h l lk e d same = (λ n. record { tet = tet n; perm = perm n })
    where
      member : Contains (numbers_at P i) g.tet
      member = glued_member first tf (part_at P i) (part_p i l) (slice_index (numbers_at P i) k) f g (contains_at (numbers_at P i) k (slice_index (numbers_at P i) k) lk refl) e

      place : (place_in (numbers_at P i) g.tet < length (numbers_at P i)) × (slice_index (numbers_at P i) (place_in (numbers_at P i) g.tet) ≡ g.tet)
      place = place_of (numbers_at P i) (part_p i l).ascending g.tet member

      there : StandsAt P g.tet
      there = record { i = i; in_parts = l; k = place_in (numbers_at P i) g.tet; in_numbers = place.0; is = place.1 }

      occurs : stand_for g.tet ≡ stand i (place_in (numbers_at P i) g.tet)
      occurs = stand_is g.tet there (tf.in_range (face_at (slice_index (numbers_at P i) k) f) g e)

      h_member : Contains (numbers_at Q (m.to i)) h.tet
      h_member = glued_member second ts (part_at Q (m.to i)) (part_q i l) (stand i k).tet (image (stand i k).perm f) h (member_of second ts Q q (stand i k).tet (stand_at i k l lk)) d

      tet : h.tet ≡ (stand_for g.tet).tet
      tet = sym (place_of (numbers_at Q (m.to i)) (part_q i l).ascending h.tet h_member).1 ∙ ap (λ (b : Gluing). slice_index (numbers_at Q (m.to i)) b.tet) same ∙ ap (λ (b : Gluing). b.tet) (sym occurs)

      perm : h.perm ≡ compose (stand_for g.tet).perm (compose g.perm (inverse (stand i k).perm))
      perm = ap (λ (b : Gluing). b.perm) same ∙ ap (λ (b : Gluing). compose b.perm (compose g.perm (inverse (stand i k).perm))) (sym occurs)

  glued_alike : (i k f : ℕ) → i < length P → k < length (numbers_at P i) → f < 4 →
      glue second (face_at (stand i k).tet (image (stand i k).perm f)) ≡ option_map (λ g. gluing_under (stand i k) (stand_for g.tet) g) (glue first (face_at (slice_index (numbers_at P i) k) f))
  glued_alike i k f l lk lf = cases (glue first (face_at (slice_index (numbers_at P i) k) f)) (glue second (face_at (stand i k).tet (image (stand i k).perm f))) refl refl (carried_in_part i k f l lk lf)
    where
      cases : (o o' : Option Gluing) → glue first (face_at (slice_index (numbers_at P i) k) f) ≡ o → glue second (face_at (stand i k).tet (image (stand i k).perm f)) ≡ o' →
          option_map (renumbered (numbers_at Q (m.to i))) o' ≡ option_map (in_part i k) o → o' ≡ option_map (λ g. gluing_under (stand i k) (stand_for g.tet) g) o
      cases None None e d same = refl
      cases None (Some h) e d same = let z : Some (renumbered (numbers_at Q (m.to i)) h) ≡ None = same in absurd cc
      cases (Some g) None e d same = let z : None ≡ Some (in_part i k g) = same in absurd cc
      cases (Some g) (Some h) e d same = let z : Some (renumbered (numbers_at Q (m.to i)) h) ≡ Some (in_part i k g) = same in
          let w : renumbered (numbers_at Q (m.to i)) h ≡ in_part i k g = cc in ap (λ (b : Gluing). Some b) (both_glued i k f g h l lk e d w)

  whole : Relabelling
  whole = made (length first) stand_for

  whole_glued : (x : Face) → x.tet < length first → x.face < 4 → glue second (face_under (relabelled_place whole x.tet) x) ≡ option_map (λ g. gluing_under (relabelled_place whole x.tet) (relabelled_place whole g.tet) g) (glue first x)
  unfolding whole
  whole_glued x lt lf = ap (λ (b : Gluing). glue second (face_under b x)) here ∙ there ∙ cases (glue first x) refl
    where
      s : StandsAt P x.tet
      s = stands_at first tf P p x.tet lt

      here : relabelled_place (made (length first) stand_for) x.tet ≡ stand s.i s.k
      here = made_stands (length first) stand_for x.tet lt ∙ stand_is x.tet s lt

      there : glue second (face_at (stand s.i s.k).tet (image (stand s.i s.k).perm x.face)) ≡ option_map (λ g. gluing_under (stand s.i s.k) (stand_for g.tet) g) (glue first x)
      there = glued_alike s.i s.k x.face s.in_parts s.in_numbers lf ∙ ap (λ t. option_map (λ g. gluing_under (stand s.i s.k) (stand_for g.tet) g) (glue first (face_at t x.face))) s.is

      cases : (o : Option Gluing) → glue first x ≡ o → option_map (λ g. gluing_under (stand s.i s.k) (stand_for g.tet) g) (glue first x) ≡
          option_map (λ (g : Gluing). gluing_under (relabelled_place (made (length first) stand_for) x.tet) (relabelled_place (made (length first) stand_for) g.tet) g) (glue first x)
      cases None e = rw e refl
      cases (Some g) e = rw e (ap₂ (λ (b c : Gluing). Some (gluing_under b c g)) (sym here) (sym (made_stands (length first) stand_for g.tet (tf.in_range x g e))))

  pub matched_carries : length second ≤ length first → IsRelabelling (length first) (made (length first) stand_for) × Carries (made (length first) stand_for) first second
  unfolding whole
  matched_carries back = (
    made_relabelling (length first) stand_for (record { in_range = λ t l. let b : (stand_for t).tet < length second = for_below t l in omega arith; separate = for_apart; permutes = for_permutes }),
    record { same_length = le_antisymm back matched_fits; four_faces = ts.four_faces; glued = whole_glued },
  )

  pub matched_relabels : length second ≤ length first → AreIsomorphic first second
  matched_relabels back = let c = matched_carries back in (made (length first) stand_for, c.0, c.1)

-- the matched tables are isomorphic
pub matched_tables : (first second : List Row) (P Q : List Part) → IsTable first → IsTable second → AreParts first P → AreParts second Q → IsMatching P Q → IsMatching Q P → AreIsomorphic first second
matched_tables first second P Q tf ts p q there back = matched_relabels first second P Q tf ts p q (matches P Q there) (matched_fits second first Q P ts tf q p (matches Q P back))

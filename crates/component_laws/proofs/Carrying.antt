-- An isomorphism maps the components of a table to the components of the other.
use Rattle.std.proofs.Common.{◌≡◌, ℕ, ◌<◌, ◌≤◌, ◌⊎◌, inl, inr, List, [], length, Contains, Option, Some, None, option_map, slice_index, slice_index_or, subst, sym, ap, ap₂, refl, ◌∙◌, arith, le_antisymm}
use Rattle.std.proofs.lemmas.Bool.{cases_lt}
use Rattle.basic_lemmas.proofs.Members.{contains_at}
use Rattle.table_definitions.specs.Permutation.{image, inverse, compose}
use Rattle.table_definitions.specs.Table.{Gluing, Row, Face, IsTable, glue}
use Rattle.table_definitions.specs.Places.{whole, IsJoined, SameComponent}
use Rattle.table_definitions.specs.Relabelling.{Relabelling, IsRelabelling, AreIsomorphic, Carries, relabelled_place, face_under, gluing_under}
use Rattle.table_definitions.proofs.Carried.{image_in_range, images_apart, perm_permutes, comes_from}
use Rattle.signature_laws.specs.Between.{made, inverted}
use Rattle.signature_laws.proofs.Standing.{made_stands, made_relabelling}
use Rattle.signature_laws.proofs.Back.{inverted_stands, carries_back}
use Rattle.signature_laws.proofs.Invariance.{led}
use Rattle.component_definitions.specs.Parts.{Part, place_in, renumbered, first_of, IsPart, AreParts}
use Rattle.component_laws.proofs.Numbers.{place_of, fits, stands_once}
use Rattle.component_laws.proofs.Members.{part_at, numbers_at, StandsAt, part_is, stands_at, one_part, member_of, member_below, first_member, joined_member, joins, glued_member, length-part, glue-part, part_is_table}
use Rattle.component_laws.proofs.Matching.{IsMatching}

module _ (first second : List Row) (by : Relabelling) (tf : IsTable first) (ts : IsTable second) (r : IsRelabelling (length first) by) (c : Carries by first second) where
  pub to : ℕ → ℕ
  to t = slice_index by.images t

  pub to_below : (t : ℕ) → t < length first → to t < length second
  unfolding to
  to_below t l = subst (λ n. slice_index by.images t < n) (sym c.same_length) (image_in_range (length first) by r t l)

  to_apart : (t u : ℕ) → t < length first → u < length first → to t ≡ to u → t ≡ u
  unfolding to
  to_apart t u l k e = images_apart (length first) by r t u l k e

  from_below : (u : ℕ) → u < length second → (t : ℕ) × (t < length first) × (to t ≡ u)
  unfolding to
  from_below u l = comes_from (length first) by r u (subst (λ n. u < n) c.same_length l)

  joined_there : (t u : ℕ) → SameComponent first t u → SameComponent second (to t) (to u)
  unfolding to
  joined_there t u j = led first second by tf c t u j

  joined_here : (t u : ℕ) → t < length first → u < length first → SameComponent second (to t) (to u) → SameComponent first t u
  unfolding to
  joined_here t u l k j = subst (λ v. IsJoined first (whole t) (whole v)) (home u k) (subst (λ v. IsJoined first (whole v) (whole (slice_index (inverted (length first) by).images (slice_index by.images u)))) (home t l)
      (led second first (inverted (length first) by) ts (carries_back first second by tf r c) (slice_index by.images t) (slice_index by.images u) j))
    where
      home : (v : ℕ) → v < length first → slice_index (inverted (length first) by).images (slice_index by.images v) ≡ v
      home v m = ap (λ (g : Gluing). g.tet) (inverted_stands (length first) by r v m)

  -- a component of the first table, and the component of the second that contains the image of one of its tetrahedra
  module _ (p q : Part) (hp : IsPart first p) (hq : IsPart second q) (t : ℕ) (in_p : Contains p.numbers t) (in_q : Contains q.numbers (to t)) where
    pub goes : (u : ℕ) → Contains p.numbers u → Contains q.numbers (to u)
    goes u m = joined_member second ts q hq (to t) (to u) in_q (joined_there t u (between u m)) (to_below u (member_below first tf p hp u m))
      where
        between : (u : ℕ) → Contains p.numbers u → SameComponent first t u
        between u m = joins first tf p hp t u in_p m

    pub comes : (u : ℕ) → u < length first → Contains q.numbers (to u) → Contains p.numbers u
    comes u l m = joined_member first tf p hp t u in_p (joined_here t u (member_below first tf p hp t in_p) l (joins second ts q hq (to t) (to u) in_q m)) l

    -- ---- both components have the same size

    there : ℕ → ℕ
    there k = place_in q.numbers (to (slice_index p.numbers k))

    entry_p : (k : ℕ) → k < length p.numbers → Contains p.numbers (slice_index p.numbers k)
    entry_p k l = contains_at p.numbers k (slice_index p.numbers k) l refl

    there_is : (k : ℕ) → k < length p.numbers → (there k < length q.numbers) × (slice_index q.numbers (there k) ≡ to (slice_index p.numbers k))
    unfolding there
    there_is k l = place_of q.numbers hq.ascending (to (slice_index p.numbers k)) (goes (slice_index p.numbers k) (entry_p k l))

    there_apart : (k n : ℕ) → k < length p.numbers → n < length p.numbers → there k ≡ there n → k ≡ n
    there_apart k n lk ln e = stands_once p.numbers hp.ascending k n lk ln
        (to_apart (slice_index p.numbers k) (slice_index p.numbers n) (member_below first tf p hp (slice_index p.numbers k) (entry_p k lk)) (member_below first tf p hp (slice_index p.numbers n) (entry_p n ln))
        (sym (there_is k lk).1 ∙ ap (slice_index q.numbers) e ∙ (there_is n ln).1))

    -- the index in p of the tetrahedron that maps to the one with a given index in q
    module _ where
      entry_q : (k : ℕ) → k < length q.numbers → Contains q.numbers (slice_index q.numbers k)
      entry_q k l = contains_at q.numbers k (slice_index q.numbers k) l refl

      found : (k : ℕ) → k < length q.numbers → (u : ℕ) × (u < length first) × (to u ≡ slice_index q.numbers k)
      found k l = from_below (slice_index q.numbers k) (member_below second ts q hq (slice_index q.numbers k) (entry_q k l))

      found_in : (k : ℕ) (l : k < length q.numbers) → Contains p.numbers (found k l).0
      found_in k l = comes (found k l).0 (found k l).1 (subst (Contains q.numbers) (sym (found k l).2) (entry_q k l))

      chosen : (k : ℕ) → (k < length q.numbers) ⊎ (length q.numbers ≤ k) → ℕ
      chosen k (inl l) = place_in p.numbers (found k l).0
      chosen k (inr exceeded) = 0

      chosen_is : (k : ℕ) (d : (k < length q.numbers) ⊎ (length q.numbers ≤ k)) → k < length q.numbers → (chosen k d < length p.numbers) × (to (slice_index p.numbers (chosen k d)) ≡ slice_index q.numbers k)
      unfolding chosen
      chosen_is k (inl l) m = let w = place_of p.numbers hp.ascending (found k l).0 (found_in k l) in (w.0, ap to w.1 ∙ (found k l).2)
      chosen_is k (inr exceeded) m = absurd (omega arith)

      back : ℕ → ℕ
      back k = chosen k (cases_lt k (length q.numbers))

      back_is : (k : ℕ) → k < length q.numbers → (back k < length p.numbers) × (to (slice_index p.numbers (back k)) ≡ slice_index q.numbers k)
      unfolding back
      back_is k l = chosen_is k (cases_lt k (length q.numbers)) l

      back_apart : (k n : ℕ) → k < length q.numbers → n < length q.numbers → back k ≡ back n → k ≡ n
      back_apart k n lk ln e = stands_once q.numbers hq.ascending k n lk ln (sym (back_is k lk).1 ∙ ap (λ i. to (slice_index p.numbers i)) e ∙ (back_is n ln).1)

    as_long : length q.numbers ≡ length p.numbers
    as_long = le_antisymm (fits (length q.numbers) (length p.numbers) back (λ k l. (back_is k l).0) back_apart) (fits (length p.numbers) (length q.numbers) there (λ k l. (there_is k l).0) there_apart)

    -- ---- the relabelling of the component

    stand : ℕ → Gluing
    stand k = record { tet = there k; perm = slice_index_or by.perms (slice_index p.numbers k) [] }

    pub part_by : Relabelling
    part_by = made (length p.numbers) stand

    occurs : (k : ℕ) → k < length p.numbers → relabelled_place part_by k ≡ stand k
    unfolding part_by
    occurs k l = made_stands (length p.numbers) stand k l

    pub part_relabelling : IsRelabelling (length p.rows) part_by
    unfolding part_by stand
    part_relabelling = subst (λ n. IsRelabelling n (made (length p.numbers) stand)) (sym (length-part first tf p hp)) (made_relabelling (length p.numbers) stand (record {
      in_range = λ k l. subst (λ n. there k < n) as_long (there_is k l).0;
      separate = there_apart;
      permutes = λ k l. perm_permutes (length first) by r (slice_index p.numbers k) (member_below first tf p hp (slice_index p.numbers k) (entry_p k l));
    }))

    part_glued : (x : Face) → x.tet < length p.numbers → x.face < 4 → glue q.rows (face_under (relabelled_place part_by x.tet) x) ≡ option_map (λ g. gluing_under (relabelled_place part_by x.tet) (relabelled_place part_by g.tet) g) (glue p.rows x)
    unfolding stand there to
    part_glued x l lf =
        ap (λ (b : Gluing). glue q.rows (face_under b x)) (occurs x.tet l)
        ∙ glue-part second ts q hq (there x.tet) f' (there_is x.tet l).0
        ∙ ap (λ v. option_map (renumbered q.numbers) (glue second (record { tet = v; face = f' }))) (there_is x.tet l).1
        ∙ ap (option_map (renumbered q.numbers)) (c.glued (record { tet = u; face = x.face }) (member_below first tf p hp u (entry_p x.tet l)) lf)
        ∙ cases (glue first (record { tet = u; face = x.face })) refl
        ∙ ap (option_map (λ (g : Gluing). gluing_under (relabelled_place part_by x.tet) (relabelled_place part_by g.tet) g)) (sym (glue-part first tf p hp x.tet x.face l))
      where
        u : ℕ
        u = slice_index p.numbers x.tet

        f' : ℕ
        f' = image (slice_index_or by.perms u []) x.face

        cases : (o : Option Gluing) → glue first (record { tet = u; face = x.face }) ≡ o
            → option_map (renumbered q.numbers) (option_map (λ (g : Gluing). gluing_under (relabelled_place by u) (relabelled_place by g.tet) g) (glue first (record { tet = u; face = x.face })))
            ≡ option_map (λ (g : Gluing). gluing_under (relabelled_place part_by x.tet) (relabelled_place part_by g.tet) g) (option_map (renumbered p.numbers) (glue first (record { tet = u; face = x.face })))
        cases None e = rw e refl
        cases (Some g) e = rw e (ap (λ (b : Gluing). Some b) (same (place_of p.numbers hp.ascending g.tet (glued_member first tf p hp u x.face g (entry_p x.tet l) e))))
          where
            same : (place_in p.numbers g.tet < length p.numbers) × (slice_index p.numbers (place_in p.numbers g.tet) ≡ g.tet) →
                renumbered q.numbers (gluing_under (relabelled_place by u) (relabelled_place by g.tet) g) ≡ gluing_under (relabelled_place part_by x.tet) (relabelled_place part_by (place_in p.numbers g.tet)) (renumbered p.numbers g)
            same w = ap (λ v. record { tet = place_in q.numbers (slice_index by.images v); perm = compose (slice_index_or by.perms v []) (compose g.perm (inverse (slice_index_or by.perms u []))) }) (sym w.1)
                ∙ ap₂ (λ (b d : Gluing). gluing_under b d (renumbered p.numbers g)) (sym (occurs x.tet l)) (sym (occurs (place_in p.numbers g.tet) w.0))

    pub part_carries : Carries part_by p.rows q.rows
    part_carries = record {
      same_length = length-part second ts q hq ∙ as_long ∙ sym (length-part first tf p hp);
      four_faces = (part_is_table second ts q hq).four_faces;
      glued = λ x l lf. part_glued x (subst (λ n. x.tet < n) (length-part first tf p hp) l) lf;
    }

  -- ---- all components

  module _ (P Q : List Part) (p : AreParts first P) (q : AreParts second Q) where
    first_at : (i : ℕ) → i < length P → Contains (numbers_at P i) (first_of (part_at P i))
    first_at i l = first_member first tf (part_at P i) (part_is first tf P p i l)

    image_at : (i : ℕ) → i < length P → StandsAt Q (to (first_of (part_at P i)))
    image_at i l = stands_at second ts Q q (to (first_of (part_at P i))) (to_below (first_of (part_at P i)) (member_below first tf (part_at P i) (part_is first tf P p i l) (first_of (part_at P i)) (first_at i l)))

    chosen_part : (i : ℕ) → (i < length P) ⊎ (length P ≤ i) → ℕ
    chosen_part i (inl l) = (image_at i l).i
    chosen_part i (inr exceeded) = 0

    part_to : ℕ → ℕ
    part_to i = chosen_part i (cases_lt i (length P))

    chosen_holds : (i : ℕ) (d : (i < length P) ⊎ (length P ≤ i)) → i < length P → (chosen_part i d < length Q) × Contains (numbers_at Q (chosen_part i d)) (to (first_of (part_at P i)))
    unfolding chosen_part
    chosen_holds i (inl l) m = ((image_at i l).in_parts, member_of second ts Q q (to (first_of (part_at P i))) (image_at i l))
    chosen_holds i (inr exceeded) m = absurd (omega arith)

    part_holds : (i : ℕ) → i < length P → (part_to i < length Q) × Contains (numbers_at Q (part_to i)) (to (first_of (part_at P i)))
    unfolding part_to
    part_holds i l = chosen_holds i (cases_lt i (length P)) l

    parts_apart : (i j : ℕ) → i < length P → j < length P → part_to i ≡ part_to j → i ≡ j
    parts_apart i j li lj e = one_part first tf P p i j (first_of (part_at P j)) li lj
        (comes (part_at P i) (part_at Q (part_to i)) (part_is first tf P p i li) (part_is second ts Q q (part_to i) (part_holds i li).0) (first_of (part_at P i)) (first_at i li) (part_holds i li).1
        (first_of (part_at P j)) (member_below first tf (part_at P j) (part_is first tf P p j lj) (first_of (part_at P j)) (first_at j lj))
        (subst (λ k. Contains (numbers_at Q k) (to (first_of (part_at P j)))) (sym e) (part_holds j lj).1))
        (first_at j lj)

    part_relabelled : (i : ℕ) → i < length P → AreIsomorphic (part_at P i).rows (part_at Q (part_to i)).rows
    part_relabelled i l = (
      part_by (part_at P i) (part_at Q (part_to i)) hp hq t (first_at i l) (part_holds i l).1,
      part_relabelling (part_at P i) (part_at Q (part_to i)) hp hq t (first_at i l) (part_holds i l).1,
      part_carries (part_at P i) (part_at Q (part_to i)) hp hq t (first_at i l) (part_holds i l).1,
    )
      where
        t : ℕ
        t = first_of (part_at P i)

        hp : IsPart first (part_at P i)
        hp = part_is first tf P p i l

        hq : IsPart second (part_at Q (part_to i))
        hq = part_is second ts Q q (part_to i) (part_holds i l).0

    pub carried_parts : IsMatching P Q
    carried_parts = record { to = part_to; in_range = λ i l. (part_holds i l).0; separate = parts_apart; relabelled = part_relabelled }

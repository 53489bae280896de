-- The sign of the image of a vertex of a link gives one of the vertex.
use Rattle.std.proofs.Common.{◌≡◌, ℕ, ◌+◌, ◌*◌, ◌<◌, Bool, false, List, length, Some, ◌⊎◌, inl, inr, sym, ap, ◌∙◌, subst, arith}
use Rattle.std.proofs.lemmas.Bool.{cases_eq, false≢true}
use Rattle.table_definitions.specs.Lists.{has}
use Rattle.table_definitions.specs.Permutation.{IsPermutationOfFour, identity, is_odd}
use Rattle.table_definitions.specs.Table.{Gluing, Row, Face, IsTable}
use Rattle.table_definitions.specs.Classes.{IsNumbering}
use Rattle.table_definitions.specs.Places.{Place, IsPlace, carried, SameVertex}
use Rattle.table_definitions.proofs.ChainLaws.{Steps, steps_across}
use Rattle.table_definitions.proofs.Faces.{face_at}
use Rattle.skeleton_definitions.specs.Links.{AreLinkSigns}
use Rattle.move_definitions.specs.Moves.{Move, Facet, IsMoved, vertex_of, kept, old_tets, place_after}
use Rattle.move_laws.proofs.Labels.{AreLabels, HasLabel, label_at}
use Rattle.move_laws.proofs.Labels as Labels
use Rattle.move_laws.proofs.Renamed.{across as over_new}
use Rattle.move_laws.proofs.Shapes.{stand_permutes}
use Rattle.move_laws.proofs.SecondStand.{crossing}
use Rattle.move_laws.proofs.Parities.{flip, behind}
use Rattle.move_link_laws.proofs.Labelled.{in_facet, Below5}
use Rattle.move_link_laws.proofs.Ties.{fine, new_at, small_label, IsOld, old_has, new_step, Ties, KeptTie, FacetTie}
use Rattle.move_link_laws.proofs.TieShapes.{tie_shape_by}
use Rattle.move_link_laws.proofs.TiesOnce.{same_old_place}
use Rattle.skeleton_laws.proofs.Spots.{class_of, IsSpot}
use Rattle.move_link_laws.proofs.TiedSpots.{tie_spot, Match, class_over, all_tied}
use Rattle.move_link_laws.proofs.Parity.{flip_over, new_parity}
use Rattle.move_link_laws.proofs.ListedSigns.{S, agree_at}

module _ (old : List Row) (m : Move) (new : List Row) (table : IsTable old) (table' : IsTable new) (h : IsMoved old m new)
    (vs : List ℕ) (n : ℕ) (numbered : IsNumbering (4 * length old) (SameVertex old) vs n) (vs' : List ℕ) (n' : ℕ) (numbered' : IsNumbering (4 * length new) (SameVertex new) vs' n') (c c' : ℕ)
    (match : Match old m new table h vs n numbered vs' n' numbered' c c') (signs : List Bool) (are : AreLinkSigns new vs' c' signs) where
  abbrev Tie : Place → Place → Type 0
  Tie p q = Ties old m new table h p q

  abbrev Old : ℕ → Facet → Type 0
  Old i f = IsOld old m new table h i f

  abbrev at : ℕ → Facet
  at j = new_at old m new table h j

  pub permutes : (x : Face) (s : Gluing) → x.tet < length old → x.face < 4 → place_after old m x ≡ Some s → IsPermutationOfFour s.perm
  permutes x s lt lf e = stand_permutes old m table (fine old m new table h) h.core x s lt lf e

  pub over : (p q : Place) (s : IsSpot (length old) p) (t : Tie p q) → class_of vs p ≡ c → class_of vs' q ≡ c'
  over p q s t e = class_over old m new table h vs n numbered vs' n' numbered' c c' match p q s t e

  facet_sign : (i j l : ℕ) (f : Facet) (ls : List ℕ) → Old i f → j < length m.core → l < length m.core → Below5 ls → has ls j ≡ false → has ls l ≡ false → IsSpot (length new) (in_facet (at j) ls) → class_of vs' (in_facet (at j) ls) ≡ c'
      → flip (is_odd (crossing i j f.labels)) (S signs (in_facet (at j) ls)) ≡ flip (is_odd (crossing i l f.labels)) (S signs (in_facet (at l) ls))
  facet_sign i j l f ls a lj ll small oj ol s e = elim (cases_eq j l) [
    | inl q ↦ (λ z. flip (is_odd (crossing i (q z) f.labels)) (S signs (in_facet (at (q z)) ls)))
    | inr ne ↦ (
        let st : Steps new (in_facet (at j) ls) (vertex_of (at j) l) (in_facet (at l) ls) = steps_across new (in_facet (at j) ls) (vertex_of (at j) l) (in_facet (at l) ls) (new_step old m new table h j l ls lj ll ne small oj ol) in
        let inner : Some (record { tet = kept old m + l; perm = over_new j l }) ≡ Some st.gluing = sym (h.inner j l lj ll ne) ∙ st.glued in
        let perm : over_new j l ≡ st.gluing.perm = (let z : record { tet = kept old m + l; perm = over_new j l } ≡ st.gluing = cc in ap (λ (r : Gluing). r.perm) z) in
        let j5 : j < 5 = small_label old m new table h j lj in
        let l5 : l < 5 = small_label old m new table h l ll in
        let lf : vertex_of (at j) l < 4 = (Labels.vertex_at j (Labels.ascending j) (Labels.new_labels j j5) l l5 (λ z. ne (sym z))).small in
        let there : S signs (in_facet (at l) ls) ≡ behind (is_odd st.gluing.perm) (S signs (in_facet (at j) ls)) = ap (S signs) st.lands ∙ agree_at new vs' c' signs are (length new) (in_facet (at j) ls) s (vertex_of (at j) l) st.gluing lf st.off e st.glued in
        let low = a.low in
        let parity : is_odd (crossing i l f.labels) ≡ behind (is_odd st.gluing.perm) (is_odd (crossing i j f.labels)) =
        new_parity i j l f.labels a.is.labels j5 l5 (λ z. absurd (omega arith)) (λ z. absurd (omega arith)) ne ∙ (λ z. behind (is_odd (perm z)) (is_odd (crossing i j f.labels))) in
        sym (flip_over (is_odd st.gluing.perm) (is_odd (crossing i j f.labels)) (S signs (in_facet (at j) ls))) ∙ (λ z. flip (sym parity z) (sym there z)))
  ]

  kept_or_old : (p q r : Place) → KeptTie old m new table h p q → FacetTie old m new table h p r → ⊥
  kept_or_old p q r a b = false≢true (sym a.stays ∙ ap (λ (z : Place). has (old_tets old m) z.tet) b.from ∙ old_has old m new table h b.i b.f b.old_is)

  same_from : (p q r : Place) (t : Tie p q) (u : Tie p r) → IsSpot (length new) q → class_of vs' q ≡ c' → flip (is_odd t.by.perm) (S signs q) ≡ flip (is_odd u.by.perm) (S signs r)
  same_from p q r t u s e = by_shapes (tie_shape_by old m new table h p q t) (tie_shape_by old m new table h p r u)
    where
      by_shapes : (KeptTie old m new table h p q × (t.by.perm ≡ identity)) ⊎ ((a : FacetTie old m new table h p q) × (t.by.perm ≡ crossing a.i a.j a.f.labels))
          → (KeptTie old m new table h p r × (u.by.perm ≡ identity)) ⊎ ((b : FacetTie old m new table h p r) × (u.by.perm ≡ crossing b.i b.j b.f.labels))
          → flip (is_odd t.by.perm) (S signs q) ≡ flip (is_odd u.by.perm) (S signs r)
      by_shapes (inl a) (inl b) = (λ z. flip (is_odd (a.1 z)) (S signs ((a.0.is ∙ sym b.0.is) z))) ∙ (λ z. flip (is_odd (sym b.1 z)) (S signs r))
      by_shapes (inl a) (inr b) = absurd (kept_or_old p q r a.0 b.0)
      by_shapes (inr a) (inl b) = absurd (kept_or_old p r q b.0 a.0)
      by_shapes (inr (a, ea)) (inr (b, eb)) =
          let same = same_old_place old m new table h a.i b.i a.f b.f a.ls b.ls a.old_is b.old_is a.small b.small a.off_i b.off_i (sym a.from ∙ b.from) in
          let to : in_facet (at b.j) a.ls ≡ r = ap (in_facet (at b.j)) same.2 ∙ sym b.to in
          (λ z. flip (is_odd (ea z)) (S signs (a.to z)))
          ∙ facet_sign a.i a.j b.j a.f a.ls a.old_is a.less b.less a.small a.off_j (ap (λ (ks : List ℕ). has ks b.j) same.2 ∙ b.off_j) (subst (IsSpot (length new)) a.to s) (ap (class_of vs') (sym a.to) ∙ e)
          ∙ (λ z. flip (is_odd (crossing (same.0 z) b.j (same.1 z).labels)) (S signs (to z))) ∙ ap (λ o. flip (is_odd o) (S signs r)) (sym eb)

  pub tied : (p : Place) → IsSpot (length old) p → class_of vs p ≡ c → (q : Place) × Tie p q
  tied p s e = all_tied old m new table h vs n numbered vs' n' numbered' c c' match p s e

  pub value : (p : Place) → IsSpot (length old) p → class_of vs p ≡ c → Bool
  value p s e = let t = tied p s e in flip (is_odd t.1.by.perm) (S signs t.0)

  pub value_is : (p q : Place) (s : IsSpot (length old) p) (e : class_of vs p ≡ c) (t : Tie p q) → value p s e ≡ flip (is_odd t.by.perm) (S signs q)
  unfolding value
  value_is p q s e t = let u = tied p s e in same_from p u.0 q u.1 t (tie_spot old m new table h p u.0 s u.1) (over p u.0 s u.1 e)

  pub one_value : (p r : Place) (s : IsSpot (length old) p) (t : IsSpot (length old) r) (e : class_of vs p ≡ c) (f : class_of vs r ≡ c) → p ≡ r → value p s e ≡ value r t f
  one_value p r s t e f d =
      let u = tied r t f in
      let w = u.1 in
      value_is p u.0 s e (record {
        face = w.face;
        by = w.by;
        low = w.low;
        tet = subst (λ (z : Place). z.tet < length old) (sym d) w.tet;
        place = subst IsPlace (sym d) w.place;
        off = ap (λ (z : Place). has z.vertices w.face) d ∙ w.off;
        occurs = ap (λ (z : Place). place_after old m (face_at z.tet w.face)) d ∙ w.occurs;
        is = w.is ∙ ap (carried w.by) (sym d);
      }) ∙ sym (value_is r u.0 t f u.1)

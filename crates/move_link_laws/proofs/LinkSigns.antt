-- The sign of a vertex of a link in the old table gives one of its image, the other sign if the map of vertices is odd.
use Rattle.std.proofs.Common.{◌≡◌, ◌≢◌, ℕ, ◌*◌, ◌<◌, Bool, false, List, length, Some, ◌⊎◌, inl, inr, sym, ap, ◌∙◌, subst}
use Rattle.std.proofs.lemmas.Bool.{cases_eq}
use Rattle.table_definitions.specs.Lists.{has}
use Rattle.table_definitions.specs.Permutation.{IsPermutationOfFour, identity, is_odd}
use Rattle.table_definitions.specs.Table.{Gluing, Row, Face, IsTable}
use Rattle.table_definitions.specs.Classes.{IsNumbering}
use Rattle.table_definitions.specs.Places.{Place, SameVertex}
use Rattle.skeleton_definitions.specs.Links.{AreLinkSigns}
use Rattle.move_definitions.specs.Moves.{Move, Facet, IsMoved, facet, vertex_of, place_after}
use Rattle.move_laws.proofs.ListedFacets.{same_some}
use Rattle.move_laws.proofs.Shapes.{stand_permutes}
use Rattle.move_laws.proofs.SecondStand.{crossing}
use Rattle.move_laws.proofs.Parities.{flip, behind}
use Rattle.move_link_laws.proofs.Labelled.{in_facet, Below5}
use Rattle.move_link_laws.proofs.Ties.{fine, new_at, IsOld, Ties, KeptTie, FacetTie}
use Rattle.move_link_laws.proofs.TieShapes.{tie_shape_by}
use Rattle.move_link_laws.proofs.TiesOnce.{same_new_place, closed_up_once, kept_or_new}
use Rattle.skeleton_laws.proofs.Spots.{class_of, IsSpot}
use Rattle.move_link_laws.proofs.TiedSpots.{tie_spot, spot_of_tie, Match, class_over, class_under, all_tied_new}
use Rattle.move_link_laws.proofs.Parity.{flip_over}
use Rattle.move_link_laws.proofs.FacetSteps as FacetSteps
use Rattle.move_link_laws.proofs.ListedSigns.{S, agree_at}

module _ (old : List Row) (m : Move) (new : List Row) (table : IsTable old) (table' : IsTable new) (h : IsMoved old m new)
    (vs : List ℕ) (n : ℕ) (numbered : IsNumbering (4 * length old) (SameVertex old) vs n) (vs' : List ℕ) (n' : ℕ) (numbered' : IsNumbering (4 * length new) (SameVertex new) vs' n') (c c' : ℕ)
    (match : Match old m new table h vs n numbered vs' n' numbered' c c') where
  abbrev Tie : Place → Place → Type 0
  Tie p q = Ties old m new table h p q

  abbrev Old : ℕ → Facet → Type 0
  Old i f = IsOld old m new table h i f

  abbrev at : ℕ → Facet
  at j = new_at old m new table h j

  pub permutes : (x : Face) (s : Gluing) → x.tet < length old → x.face < 4 → place_after old m x ≡ Some s → IsPermutationOfFour s.perm
  permutes x s lt lf e = stand_permutes old m table (fine old m new table h) h.core x s lt lf e

  pub core_apart : (i j : ℕ) (f : Facet) → Old i f → j < length m.core → j ≢ i
  core_apart i j f a l e = FacetSteps.core_apart old m new table h i j f a l e

  pub over : (p q : Place) (s : IsSpot (length old) p) (t : Tie p q) → class_of vs p ≡ c → class_of vs' q ≡ c'
  over p q s t e = class_over old m new table h vs n numbered vs' n' numbered' c c' match p q s t e

  pub under : (p q : Place) (s : IsSpot (length old) p) (t : Tie p q) → class_of vs' q ≡ c' → class_of vs p ≡ c
  under p q s t e = class_under old m new table h vs n numbered vs' n' numbered' c c' match p q s t e

  pub new_spot : (p q : Place) → IsSpot (length old) p → Tie p q → IsSpot (length new) q
  new_spot p q s t = tie_spot old m new table h p q s t

  module _ (signs : List Bool) (are : AreLinkSigns old vs c signs) where
    facet_sign : (i k j : ℕ) (f g : Facet) (ls : List ℕ) → Old i f → Old k g → j < length m.core → Below5 ls → has ls i ≡ false → has ls k ≡ false → IsSpot (length old) (in_facet f ls) → class_of vs (in_facet f ls) ≡ c
        → flip (is_odd (crossing i j f.labels)) (S signs (in_facet f ls)) ≡ flip (is_odd (crossing k j g.labels)) (S signs (in_facet g ls))
    facet_sign i k j f g ls a b lj small oi ok s e = elim (cases_eq i k) [
      | inl q ↦ (let same : f ≡ g = same_some (facet old m k) f g (ap (facet old m) (sym q) ∙ a.found) b.found in (λ z. flip (is_odd (crossing (q z) j (same z).labels)) (S signs (in_facet (same z) ls))))
      | inr ne ↦ (let st = FacetSteps.facet_step old m new table h i k f g ls a b ne small oi ok in
          let there : S signs (in_facet g ls) ≡ behind (is_odd st.by.perm) (S signs (in_facet f ls)) = ap (S signs) (sym st.lands) ∙ agree_at old vs c signs are (length old) (in_facet f ls) s (vertex_of f k) st.by st.low st.off e st.glued in
          sym (flip_over (is_odd st.by.perm) (is_odd (crossing i j f.labels)) (S signs (in_facet f ls))) ∙ (λ z. flip (sym (st.parity j lj) z) (sym there z)))
    ]

    same_from : (p r q : Place) (t : Tie p q) (u : Tie r q) → IsSpot (length old) p → class_of vs p ≡ c → flip (is_odd t.by.perm) (S signs p) ≡ flip (is_odd u.by.perm) (S signs r)
    same_from p r q t u s e = by_shapes (tie_shape_by old m new table h p q t) (tie_shape_by old m new table h r q u)
      where
        by_shapes : (KeptTie old m new table h p q × (t.by.perm ≡ identity)) ⊎ ((a : FacetTie old m new table h p q) × (t.by.perm ≡ crossing a.i a.j a.f.labels))
            → (KeptTie old m new table h r q × (u.by.perm ≡ identity)) ⊎ ((b : FacetTie old m new table h r q) × (u.by.perm ≡ crossing b.i b.j b.f.labels))
            → flip (is_odd t.by.perm) (S signs p) ≡ flip (is_odd u.by.perm) (S signs r)
        by_shapes (inl a) (inl b) =
            let both = sym a.0.is ∙ b.0.is in
            let tets : p.tet ≡ r.tet = closed_up_once old m new table h p.tet r.tet a.0.tet b.0.tet a.0.stays b.0.stays (ap (λ (z : Place). z.tet) both) in
            let same : p ≡ r = (λ z. record { tet = tets z; vertices = (both z).vertices }) in
            (λ z. flip (is_odd (a.1 z)) (S signs (same z))) ∙ (λ z. flip (is_odd (sym b.1 z)) (S signs r))
        by_shapes (inl a) (inr b) = absurd (kept_or_new old m new table h p q r a.0 b.0)
        by_shapes (inr a) (inl b) = absurd (kept_or_new old m new table h r q p b.0 a.0)
        by_shapes (inr (a, ea)) (inr (b, eb)) =
            let same = same_new_place old m new table h a.j b.j a.ls b.ls a.less b.less a.small b.small a.off_j b.off_j (sym a.to ∙ b.to) in
            let from : in_facet b.f a.ls ≡ r = ap (in_facet b.f) same.1 ∙ sym b.from in
            (λ z. flip (is_odd (ea z)) (S signs (a.from z)))
            ∙ facet_sign a.i b.i a.j a.f b.f a.ls a.old_is b.old_is a.less a.small a.off_i (ap (λ (ks : List ℕ). has ks b.i) same.1 ∙ b.off_i) (subst (IsSpot (length old)) a.from s) (ap (class_of vs) (sym a.from) ∙ e)
            ∙ (λ z. flip (is_odd (crossing b.i (same.0 z) b.f.labels)) (S signs (from z))) ∙ ap (λ o. flip (is_odd o) (S signs r)) (sym eb)

    pub tied : (q : Place) → IsSpot (length new) q → class_of vs' q ≡ c' → (p : Place) × Tie p q
    tied q s e = all_tied_new old m new table h vs n numbered vs' n' numbered' c c' match q s e

    pub old_spot : (p q : Place) → IsSpot (length new) q → Tie p q → IsSpot (length old) p
    old_spot p q s t = spot_of_tie old m new table h p q s t

    pub value : (q : Place) → IsSpot (length new) q → class_of vs' q ≡ c' → Bool
    value q s e = let t = tied q s e in flip (is_odd t.1.by.perm) (S signs t.0)

    pub value_is : (p q : Place) (s : IsSpot (length new) q) (e : class_of vs' q ≡ c') (t : Tie p q) → value q s e ≡ flip (is_odd t.by.perm) (S signs p)
    unfolding value
    value_is p q s e t = let u = tied q s e in let us = old_spot u.0 q s u.1 in same_from u.0 p q u.1 t us (under u.0 q us u.1 e)

    pub one_value : (q r : Place) (s : IsSpot (length new) q) (t : IsSpot (length new) r) (e : class_of vs' q ≡ c') (f : class_of vs' r ≡ c') → q ≡ r → value q s e ≡ value r t f
    one_value q r s t e f d =
        let u = tied r t f in
        let w = u.1 in
        value_is u.0 q s e (record { face = w.face; by = w.by; tet = w.tet; place = w.place; low = w.low; off = w.off; occurs = w.occurs; is = d ∙ w.is }) ∙ sym (value_is u.0 r t f u.1)

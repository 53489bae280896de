-- Arcs on one curve, and the uniqueness of the number of boundary curves of a link.
use Rattle.std.proofs.Common.{◌≡◌, ℕ, ◌<◌, List, [], ◌∷◌, inl, inr, refl, sym, ◌∙◌, subst}
use Rattle.std.proofs.lemmas.Bool.{cases_order}
use Rattle.std.proofs.lemmas.List.FromFn.{length-range_with_len}
use Rattle.table_definitions.specs.Lists.{below}
use Rattle.table_definitions.specs.Places.{Place, IsPlace}
use Rattle.table_definitions.proofs.ChainLaws.{joined_refl, joined_sym}
use Rattle.table_definitions.proofs.DistinctLists.{apart_below}
use Rattle.table_definitions.proofs.Listed.{below-among}
use Rattle.table_definitions.proofs.TableLaws.{Among, Among-below}
use Rattle.skeleton_definitions.specs.Skeleton.{Skeleton, IsSkeleton}
use Rattle.skeleton_laws.proofs.Matchings.{related_same}
use Rattle.move_link_laws.specs.BoundaryCurves.{LinkSide, IsBoundaryArc, IsEndOf, ArcsMeet, LeadsByArcs, AreOnOneCurve, HasBoundaryCurves, BoundaryCurvesAgree}
use Rattle.move_link_laws.proofs.Labelled.{head_off, tail_off}
use Rattle.move_link_laws.proofs.Buried.{free_of_two}

-- an arc has an end
some_end : (a : LinkSide) → (p : Place) × IsEndOf a p
some_end a = let f = free_of_two a.vertex a.face in (
  record { tet = a.tet; vertices = a.vertex ∷ f.0 ∷ [] },
  record { further = f.0; is_vertex = f.1; off_vertex = (λ e. head_off a.vertex (a.face ∷ []) f.0 f.2 (sym e)); in_face = (λ e. head_off a.face [] f.0 (tail_off a.vertex (a.face ∷ []) f.0 f.2) (sym e)); is = refl },
)

-- an arc meets itself
pub meets_itself : (s : Skeleton) (a : LinkSide) → ArcsMeet s.rows a a
meets_itself s a = let e = some_end a in record { end = e.0; other_end = e.0; of_one = e.1; of_other = e.1; joined = joined_refl s.rows e.0 }

module _ (s : Skeleton) (c : ℕ) (k : IsSkeleton s) where
  end_place : (a : LinkSide) (p : Place) → IsBoundaryArc s c a → IsEndOf a p → IsPlace p
  end_place a p is e = subst IsPlace (sym e.is) (is.is_vertex, (e.is_vertex, tt))

  pub meet_back : (a b : LinkSide) → IsBoundaryArc s c a → ArcsMeet s.rows a b → ArcsMeet s.rows b a
  meet_back a b is m = record { end = m.other_end; other_end = m.end; of_one = m.of_other; of_other = m.of_one; joined = joined_sym s.rows m.end m.other_end k.table (end_place a m.end is m.of_one) m.joined }

  pub curve_onward : (arcs : List LinkSide) (a b z : LinkSide) → LeadsByArcs s c a arcs b → AreOnOneCurve s c b z → AreOnOneCurve s c a z
  curve_onward [] a b z e on = subst (λ x. AreOnOneCurve s c x z) (sym e) on
  curve_onward (x ∷ arcs) a b z l on = let r = curve_onward arcs x b z l.2 on in (x ∷ r.0, (l.0, l.1, r.1))

  pub curve_back : (arcs : List LinkSide) (a b : LinkSide) → IsBoundaryArc s c a → LeadsByArcs s c a arcs b → AreOnOneCurve s c b a
  curve_back [] a b is e = ([], sym e)
  curve_back (x ∷ arcs) a b is l =
      let r = curve_back arcs x b l.0 l.2 in
      curve_onward r.0 b x a r.1 (a ∷ [], (is, meet_back a x is l.1, refl))

  -- chosen arcs on one curve are one arc
  one_arc : (n : ℕ) (h : HasBoundaryCurves s c n) (i j : ℕ) → i < n → j < n → AreOnOneCurve s c (h.arc i) (h.arc j) → i ≡ j
  one_arc n h i j li lj on = elim (cases_order i j) [
    | inl e ↦ e
    | inr (inl less) ↦ absurd (h.different i j less lj on)
    | inr (inr more) ↦ absurd (h.different j i more li (curve_back on.0 (h.arc i) (h.arc j) (h.are_arcs i li) on.1))
  ]

  abbrev OnCurve : (n m : ℕ) → HasBoundaryCurves s c n → HasBoundaryCurves s c m → ℕ → ℕ → Type 0
  OnCurve n m h g i j = (j < m) × AreOnOneCurve s c (g.arc j) (h.arc i)

  pub curves_agree : (n m : ℕ) → HasBoundaryCurves s c n → HasBoundaryCurves s c m → n ≡ m
  curves_agree n m h g =
      sym (length-range_with_len 0 n)
      ∙ related_same (OnCurve n m h g) (below n) (below m) (apart_below n) (apart_below m) forth back once once'
      ∙ length-range_with_len 0 m
    where
      forth : (i : ℕ) → Among i (below n) → (j : ℕ) × Among j (below m) × OnCurve n m h g i j
      forth i a = let f = g.all (h.arc i) (h.are_arcs i (below-among i n a)) in (f.0, Among-below f.0 m f.1, (f.1, f.2))

      back : (j : ℕ) → Among j (below m) → (i : ℕ) × Among i (below n) × OnCurve n m h g i j
      back j a =
          let l = below-among j m a in
          let f = h.all (g.arc j) (g.are_arcs j l) in
          (f.0, Among-below f.0 n f.1, (l, curve_back f.2.0 (h.arc f.0) (g.arc j) (h.are_arcs f.0 f.1) f.2.1))

      once : (i i' j : ℕ) → Among i (below n) → Among i' (below n) → OnCurve n m h g i j → OnCurve n m h g i' j → i ≡ i'
      once i i' j a b on on' =
          let r = curve_back on.1.0 (g.arc j) (h.arc i) (g.are_arcs j on.0) on.1.1 in
          one_arc n h i i' (below-among i n a) (below-among i' n b) (curve_onward r.0 (h.arc i) (g.arc j) (h.arc i') r.1 on'.1)

      once' : (i j j' : ℕ) → Among j (below m) → Among j' (below m) → OnCurve n m h g i j → OnCurve n m h g i j' → j ≡ j'
      once' i j j' a b on on' =
          let r = curve_back on'.1.0 (g.arc j') (h.arc i) (g.are_arcs j' on'.0) on'.1.1 in
          one_arc m g j j' on.0 on'.0 (curve_onward on.1.0 (g.arc j) (h.arc i) (g.arc j') on.1.1 r)

pub boundary_curves_agree : BoundaryCurvesAgree
boundary_curves_agree s c n m k h g = curves_agree s c k n m h g

-- Links whose boundary arcs correspond, and meet if and only if their counterparts do, have the same number of boundary
-- curves.
use Rattle.std.proofs.Common.{◌↔◌, ℕ, ◌<◌, List, [], ◌∷◌, inl, inr, refl, subst, arith}
use Rattle.std.proofs.lemmas.Bool.{cases_lt}
use Rattle.skeleton_definitions.specs.Skeleton.{Skeleton}
use Rattle.move_link_laws.specs.BoundaryCurves.{LinkSide, IsBoundaryArc, ArcsMeet, LeadsByArcs, AreOnOneCurve, HasBoundaryCurves}
use Rattle.move_link_laws.proofs.Curves.{meets_itself}

-- the arcs a and b are of the links of class c and of class c', and correspond by R
pub record Partners (s s' : Skeleton) (c c' : ℕ) (R : LinkSide → LinkSide → Type 0) (a b : LinkSide) : Type 0 where
  pub one : IsBoundaryArc s c a
  pub other : IsBoundaryArc s' c' b
  pub related : R a b

-- each arc of either link has a counterpart; two arcs meet if and only if their counterparts do
pub record ArcsCorrespond (s s' : Skeleton) (c c' : ℕ) (R : LinkSide → LinkSide → Type 0) : Type 0 where
  pub forth : (a : LinkSide) → IsBoundaryArc s c a → (b : LinkSide) × Partners s s' c c' R a b
  pub back : (b : LinkSide) → IsBoundaryArc s' c' b → (a : LinkSide) × Partners s s' c c' R a b
  pub over : (a b x y : LinkSide) → Partners s s' c c' R a b → Partners s s' c c' R x y → ArcsMeet s.rows a x → ArcsMeet s'.rows b y
  pub under : (a b x y : LinkSide) → Partners s s' c c' R a b → Partners s s' c c' R x y → ArcsMeet s'.rows b y → ArcsMeet s.rows a x

abbrev flipped : (LinkSide → LinkSide → Type 0) → LinkSide → LinkSide → Type 0
flipped R b a = R a b

partners_flipped : (s s' : Skeleton) (c c' : ℕ) (R : LinkSide → LinkSide → Type 0) (a b : LinkSide) → Partners s s' c c' R a b → Partners s' s c' c (flipped R) b a
partners_flipped s s' c c' R a b p = record { one = p.other; other = p.one; related = p.related }

-- the correspondence, read from the other link
pub correspond_back : (s s' : Skeleton) (c c' : ℕ) (R : LinkSide → LinkSide → Type 0) → ArcsCorrespond s s' c c' R → ArcsCorrespond s' s c' c (flipped R)
correspond_back s s' c c' R k = record {
  forth = λ b is. (let u = k.back b is in (u.0, partners_flipped s s' c c' R u.0 b u.1));
  back = λ a is. (let u = k.forth a is in (u.0, partners_flipped s s' c c' R a u.0 u.1));
  over = λ b a y x p q m. k.under a b x y (partners_flipped s' s c' c (flipped R) b a p) (partners_flipped s' s c' c (flipped R) y x q) m;
  under = λ b a y x p q m. k.over a b x y (partners_flipped s' s c' c (flipped R) b a p) (partners_flipped s' s c' c (flipped R) y x q) m;
}

module _ (s s' : Skeleton) (c c' : ℕ) (R : LinkSide → LinkSide → Type 0) (k : ArcsCorrespond s s' c c' R) where
  abbrev Pair : LinkSide → LinkSide → Type 0
  Pair a b = Partners s s' c c' R a b

  curve_over : (arcs : List LinkSide) (a b x y : LinkSide) → Pair a b → Pair x y → LeadsByArcs s c a arcs x → AreOnOneCurve s' c' b y
  curve_over [] a b x y p q e = (y ∷ [], (q.other, k.over a b x y p q (subst (ArcsMeet s.rows a) e (meets_itself s a)), refl))
  curve_over (z ∷ arcs) a b x y p q l =
      let u = k.forth z l.0 in
      let rest = curve_over arcs z u.0 x y u.1 q l.2 in
      (u.0 ∷ rest.0, (u.1.other, k.over a b z u.0 p u.1 l.1, rest.1))

module _ (s s' : Skeleton) (c c' : ℕ) (R : LinkSide → LinkSide → Type 0) (k : ArcsCorrespond s s' c c' R) where
  curve_under : (a b x y : LinkSide) → Partners s s' c c' R a b → Partners s s' c c' R x y → AreOnOneCurve s' c' b y → AreOnOneCurve s c a x
  curve_under a b x y p q on =
      curve_over s' s c' c (flipped R) (correspond_back s s' c c' R k) on.0 b a y x (partners_flipped s s' c c' R a b p) (partners_flipped s s' c c' R x y q) on.1

  -- the arcs that correspond to the chosen ones
  curves_over : (n : ℕ) → HasBoundaryCurves s c n → HasBoundaryCurves s' c' n
  curves_over n h = record {
    arc = λ i. (chosen i).0;
    are_arcs = λ i l. ((chosen i).1 l).other;
    different = λ i j less l on. (let m : i < n = omega arith in
        h.different i j less l (curve_under (h.arc i) (chosen i).0 (h.arc j) (chosen j).0 ((chosen i).1 m) ((chosen j).1 l) on));
    all = λ b is. (let a = k.back b is in let on = h.all a.0 a.1.one in
        (on.0, on.1, curve_over s s' c c' R k on.2.0 (h.arc on.0) (chosen on.0).0 a.0 b ((chosen on.0).1 on.1) a.1 on.2.1));
  }
    where
      chosen : (i : ℕ) → (b : LinkSide) × (i < n → Partners s s' c c' R (h.arc i) b)
      chosen i = elim (cases_lt i n) [
        | inl l ↦ (let u = k.forth (h.arc i) (h.are_arcs i l) in (u.0, λ _. u.1))
        | inr exceeded ↦ (h.arc i, λ l. absurd (omega arith))
      ]

pub curves_correspond : (s s' : Skeleton) (c c' : ℕ) (R : LinkSide → LinkSide → Type 0) → ArcsCorrespond s s' c c' R → (n : ℕ) → HasBoundaryCurves s c n ↔ HasBoundaryCurves s' c' n
curves_correspond s s' c c' R k n = (curves_over s s' c c' R k n, curves_over s' s c' c (flipped R) (correspond_back s s' c c' R k) n)

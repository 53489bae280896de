-- A link with two boundary curves: an annulus of two triangles that share two of their sides.
use Rattle.std.proofs.Common.{◌≡◌, ℕ, ◌/◌, ◌%◌, ◌<◌, Bool, true, List, [], ◌∷◌, Option, Some, None, ◌⊎◌, inl, inr, refl, sym, ap, ◌∙◌, subst, zero, suc, arith}
use Rattle.std.specs.Prelude.{◌==◌, ◌&&◌, ◌||◌, not, is_none, slice_index}
use Rattle.std.specs.List.{list_all}
use Rattle.std.proofs.lemmas.Bool.{and_from, or_cases, eqb-true, eq-eqb, ne_eqb, not_from_false}
use Rattle.table_definitions.specs.Lists.{below}
use Rattle.table_definitions.specs.Table.{Gluing, Row, glue, IsTable}
use Rattle.table_definitions.specs.Places.{Place, across}
use Rattle.table_definitions.proofs.ChainLaws.{face_crossed, kept_along}
use Rattle.table_definitions.proofs.Computed.{computed}
use Rattle.table_definitions.proofs.Faces.{face_at}
use Rattle.table_definitions.proofs.ListFacts.{list_all-below}
use Rattle.table_definitions.proofs.Tests.{table_from}
use Rattle.skeleton_definitions.specs.Skeleton.{Skeleton}
use Rattle.skeleton_class_laws.specs.Crossings.{pair}
use Rattle.skeleton_laws.proofs.SideParts.{HasParts}
use Rattle.move_link_laws.specs.BoundaryCurves.{LinkSide, IsBoundaryArc, IsEndOf, ArcsMeet, LeadsByArcs, AreOnOneCurve, HasBoundaryCurves}
use Rattle.move_link_laws.proofs.ArcNumbers.{arc_number, arc_of, parts_of, arc_again}

abbrev glued_to : ℕ → List ℕ → Option Gluing
glued_to t p = Some (record { tet = t; perm = p })

-- - 1:0132 1:0321 - and - 0:0132 0:0321 -
abbrev pub annulus_rows : List Row
annulus_rows =
    (None ∷ glued_to 1 (0 ∷ 1 ∷ 3 ∷ 2 ∷ []) ∷ glued_to 1 (0 ∷ 3 ∷ 2 ∷ 1 ∷ []) ∷ None ∷ []) ∷
    (None ∷ glued_to 0 (0 ∷ 1 ∷ 3 ∷ 2 ∷ []) ∷ glued_to 0 (0 ∷ 3 ∷ 2 ∷ 1 ∷ []) ∷ None ∷ []) ∷ []

abbrev pub annulus : Skeleton
annulus = record {
  rows = annulus_rows;
  vertices = record { classes = 0 ∷ 1 ∷ 1 ∷ 2 ∷ 0 ∷ 2 ∷ 2 ∷ 1 ∷ []; count = 3 };
  edges = record { classes = 0 ∷ 0 ∷ 1 ∷ 2 ∷ 3 ∷ 4 ∷ 1 ∷ 1 ∷ 0 ∷ 5 ∷ 3 ∷ 4 ∷ []; count = 6 };
  faces = record { classes = 0 ∷ 1 ∷ 2 ∷ 3 ∷ 4 ∷ 1 ∷ 2 ∷ 5 ∷ []; count = 6 };
}

annulus_table : IsTable annulus_rows
unfolding computed
annulus_table = table_from annulus_rows refl refl refl

-- the arc of tetrahedron t at vertex 0, in face 3
abbrev arc_in : ℕ → LinkSide
arc_in t = record { tet = t; vertex = 0; face = 3 }

-- ---- these two are all arcs of the link of class 0

is_arc_number : ℕ → Bool
is_arc_number n = not (n / 4 % 4 == n % 4) && ((slice_index annulus.vertices.classes (n / 4) == 0) && is_none (glue annulus_rows (face_at (n / 4 / 4) (n % 4))))

two_test : ℕ → Bool
two_test n = not (is_arc_number n) || ((n == 3) || (n == 19))

two_tests : list_all two_test (below 32) ≡ true
unfolding two_test is_arc_number
two_tests = refl

passed : (a b : Bool) → a ≡ true → (not a || b) ≡ true → b ≡ true
passed a b t h = (λ i. not (sym t i) || b) ∙ h

one_of_two : (a : LinkSide) → IsBoundaryArc annulus 0 a → (a ≡ arc_in 0) ⊎ (a ≡ arc_in 1)
unfolding two_test is_arc_number
one_of_two a is =
    let p : HasParts a.tet a.vertex a.face = parts_of annulus 0 a is in
    let again : arc_of (arc_number a) ≡ a = arc_again annulus 0 a is in
    let small : arc_number a < 32 = (let t = is.in_range in let v = is.is_vertex in let f = is.is_face in omega arith) in
    let off : not (arc_number a / 4 % 4 == arc_number a % 4) ≡ true = not_from_false _ (ne_eqb _ _ (λ e. is.off_vertex (sym p.vertex ∙ e ∙ p.face))) in
    let at : (slice_index annulus.vertices.classes (arc_number a / 4) == 0) ≡ true = eq-eqb _ 0 (ap (slice_index annulus.vertices.classes) p.place ∙ is.of_class) in
    let free : is_none (glue annulus_rows (face_at (arc_number a / 4 / 4) (arc_number a % 4))) ≡ true = ap is_none ((λ i. glue annulus_rows (face_at (p.tet i) (p.face i))) ∙ is.in_boundary) in
    let here : is_arc_number (arc_number a) ≡ true = and_from _ _ off (and_from _ _ at free) in
    let t : ((arc_number a == 3) || (arc_number a == 19)) ≡ true = passed (is_arc_number (arc_number a)) _ here (list_all-below two_test 32 two_tests (arc_number a) small) in
    elim (or_cases (arc_number a == 3) (arc_number a == 19) t) [
      | inl e ↦ inl (sym again ∙ ap arc_of (eqb-true (arc_number a) 3 e))
      | inr e ↦ inr (sym again ∙ ap arc_of (eqb-true (arc_number a) 19 e))
    ]

is_arc_0 : IsBoundaryArc annulus 0 (arc_in 0)
is_arc_0 = record { in_range = omega arith; is_vertex = omega arith; is_face = omega arith; off_vertex = λ e. omega arith; of_class = refl; in_boundary = refl }

is_arc_1 : IsBoundaryArc annulus 0 (arc_in 1)
is_arc_1 = record { in_range = omega arith; is_vertex = omega arith; is_face = omega arith; off_vertex = λ e. omega arith; of_class = refl; in_boundary = refl }

-- ---- and they have no end in common

differ : (t u : ℕ) → t ≡ 0 → u ≡ 1 → t ≡ u → ⊥
differ t u a b e = omega arith

-- a directed edge in the class of the ends of the first arc
abbrev Ends : Place → Type 0
Ends p = (p ≡ pair 0 0 1) ⊎ ((p ≡ pair 0 0 2) ⊎ (p ≡ pair 1 0 3))

across_01 : (f : ℕ) (q : Place) → f < 4 → across annulus_rows (pair 0 0 1) f ≡ Some q → Ends q
across_01 zero q l e = absurd cc
across_01 (suc zero) q l e = absurd cc
across_01 (suc (suc zero)) q l e = (let z : Some (pair 1 0 3) ≡ Some q = e in inr (inr cc))
across_01 (suc (suc (suc zero))) q l e = absurd cc
across_01 (suc (suc (suc (suc f)))) q l e = absurd (omega arith)

across_02 : (f : ℕ) (q : Place) → f < 4 → across annulus_rows (pair 0 0 2) f ≡ Some q → Ends q
across_02 zero q l e = absurd cc
across_02 (suc zero) q l e = (let z : Some (pair 1 0 3) ≡ Some q = e in inr (inr cc))
across_02 (suc (suc zero)) q l e = absurd cc
across_02 (suc (suc (suc zero))) q l e = absurd cc
across_02 (suc (suc (suc (suc f)))) q l e = absurd (omega arith)

across_03 : (f : ℕ) (q : Place) → f < 4 → across annulus_rows (pair 1 0 3) f ≡ Some q → Ends q
across_03 zero q l e = absurd cc
across_03 (suc zero) q l e = (let z : Some (pair 0 0 2) ≡ Some q = e in inr (inl cc))
across_03 (suc (suc zero)) q l e = (let z : Some (pair 0 0 1) ≡ Some q = e in inl cc)
across_03 (suc (suc (suc zero))) q l e = absurd cc
across_03 (suc (suc (suc (suc f)))) q l e = absurd (omega arith)

ends_step : (p : Place) (f : ℕ) (q : Place) → Ends p → across annulus_rows p f ≡ Some q → Ends q
ends_step p f q h e = elim h [
  | inl i ↦ across_01 f q l (ap (λ (r : Place). across annulus_rows r f) (sym i) ∙ e)
  | inr (inl i) ↦ across_02 f q l (ap (λ (r : Place). across annulus_rows r f) (sym i) ∙ e)
  | inr (inr i) ↦ across_03 f q l (ap (λ (r : Place). across annulus_rows r f) (sym i) ∙ e)
]
  where
    l : f < 4
    l = face_crossed annulus_rows p f q annulus_table e

end_of_0 : (p : Place) → IsEndOf (arc_in 0) p → Ends p
end_of_0 p e = by_further e.further e.is_vertex e.off_vertex e.in_face e.is
  where
    by_further : (w : ℕ) → w < 4 → (w ≡ 0 → ⊥) → (w ≡ 3 → ⊥) → p ≡ pair 0 0 w → Ends p
    by_further zero l n m i = absurd (n refl)
    by_further (suc zero) l n m i = inl i
    by_further (suc (suc zero)) l n m i = inr (inl i)
    by_further (suc (suc (suc zero))) l n m i = absurd (m refl)
    by_further (suc (suc (suc (suc w)))) l n m i = absurd (omega arith)

end_of_1 : (p : Place) → IsEndOf (arc_in 1) p → Ends p → ⊥
end_of_1 p e h = elim h [
  | inl i ↦ differ 0 1 refl refl (ap (λ (r : Place). r.tet) (sym i ∙ e.is))
  | inr (inl i) ↦ differ 0 1 refl refl (ap (λ (r : Place). r.tet) (sym i ∙ e.is))
  | inr (inr i) ↦ e.in_face (ap (λ (r : Place). slice_index r.vertices 1) (sym e.is ∙ i))
]

never_meet : ArcsMeet annulus_rows (arc_in 0) (arc_in 1) → ⊥
never_meet m = end_of_1 m.other_end m.of_other (kept_along annulus_rows Ends ends_step m.joined.0 m.end m.other_end (end_of_0 m.end m.of_one) m.joined.1)

never_on_one : (arcs : List LinkSide) → LeadsByArcs annulus 0 (arc_in 0) arcs (arc_in 1) → ⊥
never_on_one [] e = differ 0 1 refl refl (ap (λ (a : LinkSide). a.tet) e)
never_on_one (x ∷ arcs) l = elim (one_of_two x l.0) [
  | inl e ↦ never_on_one arcs (subst (λ a. LeadsByArcs annulus 0 a arcs (arc_in 1)) e l.2)
  | inr e ↦ never_meet (subst (ArcsMeet annulus_rows (arc_in 0)) e l.1)
]

pub two_curves : HasBoundaryCurves annulus 0 2
two_curves = record {
  arc = arc_in;
  are_arcs = λ i l. by_number i l;
  different = λ i j less l on. (let zi : i ≡ 0 = omega arith in let zj : j ≡ 1 = omega arith in
      let there = subst (λ z. AreOnOneCurve annulus 0 (arc_in 0) (arc_in z)) zj (subst (λ z. AreOnOneCurve annulus 0 (arc_in z) (arc_in j)) zi on) in
      never_on_one there.0 there.1);
  all = λ a is. elim (one_of_two a is) [
    | inl e ↦ (0, omega arith, ([], sym e))
    | inr e ↦ (1, omega arith, ([], sym e))
  ];
}
  where
    by_number : (i : ℕ) → i < 2 → IsBoundaryArc annulus 0 (arc_in i)
    by_number zero l = is_arc_0
    by_number (suc zero) l = is_arc_1
    by_number (suc (suc i)) l = absurd (omega arith)

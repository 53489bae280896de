-- The matching equations of two tetrahedra, glued along a face, and a quad of each.
use Rattle.std.proofs.Common.{◌≡◌, ◌≢◌, ℕ, zero, suc, ◌+◌, ◌*◌, ◌/◌, ◌%◌, ◌<◌, inl, inr, pos, negsuc, List, [], ◌∷◌, Some, None, length, slice_index, slice_index_or, refl, sym, ap, subst, ◌∙◌, arith, lit<}
use Rattle.std.proofs.Math.Nat.{eq-one_of_dvd-one}
use Rattle.std.proofs.lemmas.Bool.{cases_eq}
use Rattle.cone_definitions.specs.Vectors.{IsNonzero, IsInside}
use Rattle.cone_definitions.specs.Rows.{Row as EquationRow, IsZeroAt, IsSolution}
use Rattle.cone_definitions.specs.Surfaces.{IsVertexSurface}
use Rattle.table_definitions.specs.Permutation.{four, IsPermutationOfFour}
use Rattle.table_definitions.specs.Table.{Gluing, Row, glue, IsTable, table_fault}
use Rattle.table_definitions.proofs.TableLaws.{IsTable-no_fault}
use Rattle.skeleton_definitions.specs.Skeleton.{Skeleton, IsSkeleton}
use Rattle.surface_definitions.specs.Coordinates.{clash_list, tri_column}
use Rattle.surface_definitions.specs.declared.Coords.TheVariants.{Standard, Quad}
use Rattle.surface_definitions.specs.Equations.{matching_rows}
use Rattle.surface_definitions.specs.Laws.{IsAcceptedVector}
use Rattle.surface_definitions.specs.Lift.{projected}
use Rattle.surface_definitions.specs.QuadEquations.{AreEquations}
use Rattle.surface_definitions.specs.Verdict.{verdict, solution}
use Rattle.surface_definitions.proofs.Computed.{computed}
use Rattle.surface_definitions.proofs.VerdictLaws.{accepted_by}
use Rattle.surface_quad_laws.proofs.QuadRows.{quads_solve}
use Rattle.surface_quad_laws.specs.LinkLaws.{IsCanonical}
use Rattle.surface_agreement_laws.specs.WorkedTable.{two_tetrahedra, two_quads}

-- the equation of the arcs of both quads
third_row : EquationRow
third_row = (2, pos 1) ∷ (4, pos 1) ∷ (9, negsuc 0) ∷ (11, negsuc 0) ∷ []

rows_are : matching_rows Standard two_tetrahedra
    ≡ ((0, pos 1) ∷ (6, pos 1) ∷ (7, negsuc 0) ∷ (13, negsuc 0) ∷ []) ∷ ((1, pos 1) ∷ (5, pos 1) ∷ (8, negsuc 0) ∷ (12, negsuc 0) ∷ []) ∷ third_row ∷ []
unfolding computed third_row
rows_are = refl

-- ---- a table

abbrev IsFour : Gluing → Type 0
IsFour g = four ≡ g.perm

glued_so : (t f : ℕ) (g : Gluing) → glue two_tetrahedra (record { tet = t; face = f }) ≡ Some g → IsFour g
glued_so zero zero g e = absurd cc
glued_so zero (suc zero) g e = absurd cc
glued_so zero (suc (suc zero)) g e = absurd cc
glued_so zero (suc (suc (suc zero))) g e = let s : record { tet = 1; perm = four } ≡ g = cc in ap (λ (h : Gluing). h.perm) s
glued_so zero (suc (suc (suc (suc f)))) g e = absurd cc
glued_so (suc zero) zero g e = absurd cc
glued_so (suc zero) (suc zero) g e = absurd cc
glued_so (suc zero) (suc (suc zero)) g e = absurd cc
glued_so (suc zero) (suc (suc (suc zero))) g e = let s : record { tet = 0; perm = four } ≡ g = cc in ap (λ (h : Gluing). h.perm) s
glued_so (suc zero) (suc (suc (suc (suc f)))) g e = absurd cc
glued_so (suc (suc t)) f g e = absurd cc

four_permutes : IsPermutationOfFour four
unfolding computed
four_permutes = refl

no_fault : table_fault two_tetrahedra ≡ None
unfolding computed
no_fault = refl

of_four : (i : ℕ) (d : Row) → i < 2 → length (slice_index_or two_tetrahedra i d) ≡ 4
of_four zero d l = refl
of_four (suc zero) d l = refl
of_four (suc (suc i)) d l = absurd (omega arith)

table : IsTable two_tetrahedra
table = IsTable-no_fault two_tetrahedra
    of_four
    (λ x g e. subst IsPermutationOfFour (glued_so x.tet x.face g e) four_permutes) no_fault

-- ---- solutions

accepted : (verdict 2 14 (matching_rows Standard two_tetrahedra) (clash_list Standard 2) two_quads ≡ solution)
    × (verdict 2 14 (matching_rows Standard two_tetrahedra) (clash_list Standard 2) (0 ∷ 0 ∷ 0 ∷ 0 ∷ 1 ∷ 0 ∷ 0 ∷ 0 ∷ 0 ∷ 1 ∷ 0 ∷ 0 ∷ 0 ∷ 0 ∷ []) ≡ solution)
unfolding computed
accepted = (refl, refl)

two_quads_accepted : IsAcceptedVector 2 14 (matching_rows Standard two_tetrahedra) (clash_list Standard 2) two_quads
two_quads_accepted = accepted_by 2 14 (matching_rows Standard two_tetrahedra) (clash_list Standard 2) two_quads accepted.0

-- one quad, and the triangle that it meets
abbrev one_quad : List ℕ
one_quad = 0 ∷ 0 ∷ 0 ∷ 0 ∷ 1 ∷ 0 ∷ 0 ∷ 0 ∷ 0 ∷ 1 ∷ 0 ∷ 0 ∷ 0 ∷ 0 ∷ []

one_quad_accepted : IsAcceptedVector 2 14 (matching_rows Standard two_tetrahedra) (clash_list Standard 2) one_quad
one_quad_accepted = accepted_by 2 14 (matching_rows Standard two_tetrahedra) (clash_list Standard 2) one_quad accepted.1

-- all other columns are 0
outside : (i : ℕ) → i ≢ 4 → i ≢ 11 → slice_index two_quads i ≡ 0
outside zero a b = refl
outside (suc zero) a b = refl
outside (suc (suc zero)) a b = refl
outside (suc (suc (suc zero))) a b = refl
outside (suc (suc (suc (suc zero)))) a b = absurd (a refl)
outside (suc (suc (suc (suc (suc zero))))) a b = refl
outside (suc (suc (suc (suc (suc (suc zero)))))) a b = refl
outside (suc (suc (suc (suc (suc (suc (suc zero))))))) a b = refl
outside (suc (suc (suc (suc (suc (suc (suc (suc zero)))))))) a b = refl
outside (suc (suc (suc (suc (suc (suc (suc (suc (suc zero))))))))) a b = refl
outside (suc (suc (suc (suc (suc (suc (suc (suc (suc (suc zero)))))))))) a b = refl
outside (suc (suc (suc (suc (suc (suc (suc (suc (suc (suc (suc zero))))))))))) a b = absurd (b refl)
outside (suc (suc (suc (suc (suc (suc (suc (suc (suc (suc (suc (suc zero)))))))))))) a b = refl
outside (suc (suc (suc (suc (suc (suc (suc (suc (suc (suc (suc (suc (suc zero))))))))))))) a b = refl
outside (suc (suc (suc (suc (suc (suc (suc (suc (suc (suc (suc (suc (suc (suc i)))))))))))))) a b = refl

-- a solution inside the two quads has equally many of each
module _ (zs : List ℕ) (sz : IsSolution 14 (matching_rows Standard two_tetrahedra) zs) (some : IsNonzero zs) (inside : IsInside zs two_quads) where
  third_zero : IsZeroAt third_row zs
  third_zero = subst (λ (rows : List EquationRow). (d : EquationRow) → 2 < length rows → IsZeroAt (slice_index_or rows 2 d) zs) rows_are (sz.zero 2) [] (lit< tt)

  as_many : slice_index zs 4 ≡ slice_index zs 11
  unfolding third_row
  as_many =
      let none2 : slice_index zs 2 ≡ 0 = inside 2 refl in
      let none9 : slice_index zs 9 ≡ 0 = inside 9 refl in
      let e : 0 + 1 * slice_index zs 2 + 1 * slice_index zs 4 + 0 * slice_index zs 9 + 0 * slice_index zs 11 ≡ 0 + 0 * slice_index zs 2 + 0 * slice_index zs 4 + 1 * slice_index zs 9 + 1 * slice_index zs 11 = third_zero in
      omega arith

  some_four : slice_index zs 4 ≢ 0
  some_four z = some.1 (elim (cases_eq some.0 4) [
    | inl e ↦ subst (λ i. slice_index zs i ≡ 0) (sym e) z
    | inr four_not ↦ elim (cases_eq some.0 11) [
      | inl e ↦ subst (λ i. slice_index zs i ≡ 0) (sym e) (sym as_many ∙ z)
      | inr eleven_not ↦ inside some.0 (outside some.0 four_not eleven_not)
    ]
  ])

  around : IsInside two_quads zs
  around i z = elim (cases_eq i 4) [
    | inl e ↦ absurd (some_four (subst (λ i. slice_index zs i ≡ 0) e z))
    | inr four_not ↦ elim (cases_eq i 11) [
      | inl e ↦ absurd (some_four (as_many ∙ subst (λ i. slice_index zs i ≡ 0) e z))
      | inr eleven_not ↦ outside i four_not eleven_not
    ]
  ]

pub two_quads_vertex : IsVertexSurface 14 (matching_rows Standard two_tetrahedra) (clash_list Standard 2) two_quads
two_quads_vertex = record {
  extreme = record { solution = two_quads_accepted.solves; nonzero = (4, λ e. absurd cc); least = λ zs sz some inside. around zs sz some inside };
  admissible = two_quads_accepted.admissible;
  primitive = λ d divides. eq-one_of_dvd-one (divides 4);
}

pub two_quads_canonical : (s : Skeleton) → IsSkeleton s → IsCanonical s Standard two_quads
two_quads_canonical s k c lc =
    let m = (k.vertices).none_empty c lc in
    let four_not : tri_column Standard (m.0 / 4) (m.0 % 4) ≢ 4 = λ e. omega arith in
    let eleven_not : tri_column Standard (m.0 / 4) (m.0 % 4) ≢ 11 = λ e. omega arith in
    (m.0, m.1, m.2, outside (tri_column Standard (m.0 / 4) (m.0 % 4)) four_not eleven_not)

-- the one quad is a solution inside both
pub no_quad_vertex : (quad_rows : List EquationRow) → AreEquations Quad two_tetrahedra quad_rows → IsVertexSurface 6 quad_rows (clash_list Quad 2) (projected 2 two_quads) → ⊥
no_quad_vertex quad_rows equations h =
    let less : IsInside (projected 2 two_quads) (projected 2 one_quad) =
    (h.extreme).least (projected 2 one_quad) (quads_solve two_tetrahedra one_quad table one_quad_accepted.solves quad_rows equations) (0, λ e. absurd cc) quads_inside in
    not_both (slice_index (projected 2 two_quads) 3) (less 3 refl) refl
  where
    not_both : (a : ℕ) → a ≡ 0 → a ≡ 1 → ⊥
    not_both a z e = omega arith

    quads_inside : IsInside (projected 2 one_quad) (projected 2 two_quads)
    quads_inside zero z = z
    quads_inside (suc i) z = none i
      where
        none : (i : ℕ) → slice_index (projected 2 one_quad) (suc i) ≡ 0
        none zero = refl
        none (suc zero) = refl
        none (suc (suc zero)) = refl
        none (suc (suc (suc zero))) = refl
        none (suc (suc (suc (suc zero)))) = refl
        none (suc (suc (suc (suc (suc i))))) = refl

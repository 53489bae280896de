-- One tetrahedron without gluings.
use Rattle.std.proofs.Common.{◌≡◌, ◌≢◌, ℕ, zero, suc, ◌*◌, List, [], ◌∷◌, Some, length, slice_index, All, AllPairs, refl, arith, lit<, lit≤}
use Rattle.cone_definitions.specs.Enumeration.{unit_vectors}
use Rattle.cone_definitions.proofs.First.{unit_vectors_list}
use Rattle.cone_ray_laws.proofs.Faces.{face_list}
use Rattle.table_definitions.specs.Table.{Gluing, Row, glue, IsTable}
use Rattle.surface_definitions.specs.Coordinates.{clash_list}
use Rattle.surface_definitions.specs.declared.Coords.TheVariants.{Standard}
use Rattle.surface_definitions.specs.Equations.{matching_rows}
use Rattle.surface_definitions.proofs.Computed.{computed}
use Rattle.surface_definitions.proofs.ClashPairs.{clashes_apart}
use Rattle.surface_definitions.specs.Laws.{IsAcceptedVector}
use Rattle.surface_definitions.specs.Verdict.{verdict, solution}
use Rattle.surface_definitions.proofs.VerdictLaws.{accepted_by}
use Rattle.sum_definitions.specs.Adding.{sum_at}
use Rattle.sum_definitions.specs.Sums.{Term}
use Rattle.surface_sum_laws.specs.Laws.{AreListed, AreCounted, IsSumOfListed}
use Rattle.surface_sum_laws.proofs.Compatible.{inside_united}
use Rattle.surface_sum_laws.proofs.Solutions.{supports_inside}
use Rattle.surface_sum_laws.specs.WorkedSum.{alone, AloneHasList, AloneIsSum, AloneHasPart, three_discs}

no_equations : [] ≡ matching_rows Standard alone
unfolding computed
no_equations = refl

no_gluing : (t f : ℕ) (g : Gluing) → glue alone (record { tet = t; face = f }) ≡ Some g → ⊥
no_gluing zero zero g e = absurd cc
no_gluing zero (suc zero) g e = absurd cc
no_gluing zero (suc (suc zero)) g e = absurd cc
no_gluing zero (suc (suc (suc zero))) g e = absurd cc
no_gluing zero (suc (suc (suc (suc f)))) g e = absurd cc
no_gluing (suc t) f g e = absurd cc

four_faces : All (λ (row : Row). length row ≡ 4) alone
four_faces zero d l = refl
four_faces (suc i) d l = absurd (omega arith)

is_table : IsTable alone
is_table = record {
  limited = lit≤ tt;
  four_faces = four_faces;
  permutes = λ x g e. absurd (no_gluing x.tet x.face g e);
  in_range = λ x g e. absurd (no_gluing x.tet x.face g e);
  separate = λ x g e. absurd (no_gluing x.tet x.face g e);
  leads_back = λ x g e. absurd (no_gluing x.tet x.face g e);
}

pub alone_list : AloneHasList
alone_list = record { table = is_table; are_equations = no_equations; is_list = unit_vectors_list 7 (clash_list Standard 1) (clashes_apart Standard 1) }

pub alone_part : AloneHasPart
alone_part = face_list 7 [] (5 ∷ 6 ∷ []) (clash_list Standard 1) (unit_vectors 7) (unit_vectors_list 7 (clash_list Standard 1) (clashes_apart Standard 1))

-- ---- two triangles and two quads

abbrev discs : List ℕ
discs = 1 ∷ 1 ∷ 0 ∷ 0 ∷ 2 ∷ 0 ∷ 0 ∷ []

is_solution : verdict 2 7 [] (clash_list Standard 1) discs ≡ solution
unfolding computed
is_solution = refl

accepted : IsAcceptedVector 2 7 [] (clash_list Standard 1) discs
accepted = accepted_by 2 7 [] (clash_list Standard 1) discs is_solution

equal : (j : ℕ) → 1 * slice_index discs j ≡ sum_at three_discs j
equal zero = refl
equal (suc zero) = refl
equal (suc (suc zero)) = refl
equal (suc (suc (suc zero))) = refl
equal (suc (suc (suc (suc zero)))) = refl
equal (suc (suc (suc (suc (suc zero))))) = refl
equal (suc (suc (suc (suc (suc (suc zero)))))) = refl
equal (suc (suc (suc (suc (suc (suc (suc j))))))) = refl

counted : AreCounted three_discs
counted zero d l = lit≤ tt
counted (suc zero) d l = lit≤ tt
counted (suc (suc zero)) d l = lit≤ tt
counted (suc (suc (suc i))) d l = absurd (omega arith)

listed : AreListed (unit_vectors 7) three_discs
listed zero d l = (6, lit< tt, refl)
listed (suc zero) d l = (5, lit< tt, refl)
listed (suc (suc zero)) d l = (2, lit< tt, refl)
listed (suc (suc (suc i))) d l = absurd (omega arith)

different : AllPairs (λ (term other : Term). term.vector ≢ other.vector) three_discs
different zero (suc zero) d less l e = absurd cc
different zero (suc (suc zero)) d less l e = absurd cc
different (suc zero) (suc (suc zero)) d less l e = absurd cc
different zero zero d less l e = absurd (omega arith)
different (suc i) zero d less l e = absurd (omega arith)
different (suc i) (suc zero) d less l e = absurd (omega arith)
different (suc (suc i)) (suc (suc zero)) d less l e = absurd (omega arith)
different i (suc (suc (suc j))) d less l e = absurd (omega arith)

sum : IsSumOfListed (unit_vectors 7) discs 1 three_discs
sum = record { some = lit≤ tt; equal = equal; counted = counted; listed = listed; different = different }

pub alone_sum : AloneIsSum
alone_sum = record {
  solution = record { solution = accepted.solves; admissible = accepted.admissible };
  sum = sum;
  compatible = inside_united (clash_list Standard 1) three_discs discs (supports_inside (unit_vectors 7) discs 1 three_discs sum) accepted.admissible;
}

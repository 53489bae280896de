-- A solution, and each solution on its ray, are multiples of one primitive solution.
use Rattle.std.proofs.Common.{◌≡◌, ℕ, ◌*◌, ◌≤◌, inl, inr, List, length, slice_index, sym, ap, ◌∙◌, arith}
use Rattle.std.proofs.lemmas.Bool.{cases_eq}
use Rattle.cone_definitions.specs.Vectors.{IsNonzero}
use Rattle.cone_definitions.specs.Rows.{Row, IsSolution}
use Rattle.cone_definitions.specs.Laws.{HaveOneRay}
use Rattle.cone_definitions.proofs.Entries.{length-multiple, entry-multiple}
use Rattle.cone_definitions.proofs.Solutions.{mul_cancel}
use Rattle.cone_definitions.proofs.OneRay.{OneRay, one_ray, IsTimes, IsTimes-multiple, solution_divided}
use Rattle.cone_ray_laws.specs.Rays.{OnRayHaveOneRay, OneRayIsOnRay}
use Rattle.cone_ray_laws.proofs.Spanned.{on_ray, on_ray_entry}

from_one_ray : (columns : ℕ) (rows : List Row) (x y z : List ℕ) (b : ℕ) → IsSolution columns rows x → IsNonzero x → IsSolution columns rows y → (r : OneRay columns x z) → IsTimes y b r.s → HaveOneRay columns rows x y
from_one_ray columns rows x y z b sx some sy r h = record {
  ray = r.s;
  solution = solution_divided columns rows r.a x r.s sx some r.width r.x_is;
  primitive = r.primitive;
  x_times = r.a;
  y_times = b;
  x_is = IsTimes-multiple columns r.a x r.s sx.width r.width r.x_is;
  y_is = IsTimes-multiple columns b y r.s sy.width r.width h;
}

pub on_ray_have_one_ray : OnRayHaveOneRay
on_ray_have_one_ray columns rows x y sx some sy h = elim (cases_eq h.x_times 0) [
  | inl z ↦ (let r : OneRay columns x x = one_ray columns x x sx.width sx.width some (record { m = 1; c = 1; some_m = omega arith; some_c = omega arith; same = λ j. omega arith }) in
      from_one_ray columns rows x y x 0 sx some sy r (λ j. mul_cancel h.y_times (slice_index y j) (0 * slice_index r.s j) h.some_y (on_ray_entry x y h j ∙ rw z (omega arith))))
  | inr more ↦ (let r : OneRay columns x y = one_ray columns x y sx.width sy.width some
      (record { m = h.x_times; c = h.y_times; some_m = omega arith; some_c = h.some_y; same = λ j. sym (on_ray_entry x y h j) }) in
      from_one_ray columns rows x y y r.b sx some sy r r.y_is)
]

one_times : (a b s x y : ℕ) → x ≡ a * s → y ≡ b * s → a * y ≡ b * x
one_times a b s x y e f = omega (arith, ap (λ n. b * n) e, ap (λ n. a * n) f)

pub one_ray_is_on_ray : OneRayIsOnRay
one_ray_is_on_ray columns rows x y some h = on_ray x y h.x_times h.y_times widths positive
    (λ j. one_times h.x_times h.y_times (slice_index h.ray j) (slice_index x j) (slice_index y j) (x_entry j) (ap (λ v. slice_index v j) h.y_is ∙ entry-multiple h.y_times h.ray j))
  where
    widths : length x ≡ length y
    widths = ap length h.x_is ∙ length-multiple h.x_times h.ray ∙ sym (length-multiple h.y_times h.ray) ∙ sym (ap length h.y_is)

    x_entry : (j : ℕ) → slice_index x j ≡ h.x_times * slice_index h.ray j
    x_entry j = ap (λ v. slice_index v j) h.x_is ∙ entry-multiple h.x_times h.ray j

    positive : 1 ≤ h.x_times
    positive = elim (cases_eq h.x_times 0) [
      | inl z ↦ absurd (some.1 (x_entry some.0 ∙ rw z (omega arith)))
      | inr more ↦ omega arith
    ]

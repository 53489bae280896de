-- A unit vector is a ray.
use Rattle.std.proofs.Common.{ℕ, ◌<◌, ◌≤◌, ◌^◌, get_or, ⊎_elim, ap, arith}
use Rattle.std.proofs.lemmas.Bool.{cases_eq}
use Rattle.cone_definitions.specs.Vectors.{unit}
use Rattle.cone_definitions.proofs.Units.{length-unit, entry-unit_same, entry-unit_other, unit_nonzero, unit_primitive}
use Rattle.cone_arithmetic.specs.RayEntries.{IsReduced}

pub unit_reduced : (limit columns place : ℕ) → place < columns → columns < 2 ^ 32 → 1 ≤ limit → IsReduced limit (unit columns place)
unit_reduced limit columns place within width some = record {
  width = omega (arith, length-unit columns place);
  bounded = λ column. ⊎_elim
      (λ h. omega (arith, ap (λ k. get_or (unit columns place) k 0) h, entry-unit_same columns place within))
      (λ other. omega (arith, entry-unit_other columns place column other))
      (cases_eq column place);
  nonzero = unit_nonzero columns place within;
  primitive = unit_primitive columns place within;
}

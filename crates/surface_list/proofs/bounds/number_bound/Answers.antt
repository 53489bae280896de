-- The bound is at least the power of 16.
use Rattle.std.proofs.Common.{ℕ, zero, suc, ◌*◌, ◌<◌, ◌≤◌, ◌^◌, arith}
use Rattle.std.proofs.Math.Nat.{pow-zero, mul-le-mul, le_refl}
use Rattle.surface_definitions.specs.declared.Coords.{Coords}
use Rattle.surface_definitions.specs.declared.Coords.TheVariants.{Standard, Quad, Octagon}
use Rattle.surface_equation_laws.specs.Bounds.{number_bound}
use Rattle.surface_list.proofs.bounds.number_bound.Goals as goal

power_below : (coords : Coords) (n : ℕ) → number_bound coords n < 2 ^ 128 → 16 ^ n < 2 ^ 128
power_below Standard n l = omega arith
power_below Quad zero l = omega (arith, pow-zero 16)
power_below Quad (suc m) l =
    let p : ℕ = 16 ^ suc m in
    let some : 1 ≤ 12 * suc m = omega arith in
    let more : 1 * p ≤ 12 * suc m * p = mul-le-mul some (le_refl p) in
    omega arith
power_below Octagon n l = omega arith

pub returns-in_err-power : goal.returns-in_err-power
returns-in_err-power c = rw c.from_residual.ensures (λ l. c.in_err-power.ensures (power_below c.args.coords c.args.tets l))

-- The bound at the pairs of a step.
use Rattle.std.proofs.Common.{ℕ, ◌+◌, ◌<◌, ◌≤◌, List, length, arith}
use Rattle.std.proofs.lemmas.List.{length-take}
use Rattle.cone_definitions.specs.Rows.{Row}
use Rattle.cone_definitions.specs.Surfaces.{Clash}
use Rattle.cone_definitions.specs.Elimination.{Step, step_at, IsPair}
use Rattle.cone_definitions.proofs.Unions.{ray_primitive, third_ray}
use Rattle.cone_laws.specs.Unions.{union_size}
use Rattle.cone_laws.specs.Laws.{HasNoThird}
use Rattle.cone_laws.proofs.Bound.{union_bound}

pub pair_no_third : (step : Step) (u w : List ℕ) → IsPair step u w → HasNoThird step.columns step.before u w
pair_no_third step u w p v hv inside = p.no_third v (third_ray step u w v p.no_clash inside hv) inside

pub pair_bound : (step : Step) (u w : List ℕ) → IsPair step u w → union_size step.columns u w ≤ length step.before + 2
pair_bound step u w p = union_bound step.columns step.before u w (ray_primitive step u p.u_ray) (ray_primitive step w p.w_ray) (pair_no_third step u w p)

pub pair_of_step_bound : (columns : ℕ) (rows : List Row) (pairs : List Clash) (k : ℕ) (u w : List ℕ) → IsPair (step_at columns rows pairs k) u w → union_size columns u w ≤ k + 2
pair_of_step_bound columns rows pairs k u w p = omega (arith, pair_bound (step_at columns rows pairs k) u w p, length-take k rows)

pub large_no_pair : (columns : ℕ) (rows : List Row) (pairs : List Clash) (k : ℕ) (u w : List ℕ) → k + 2 < union_size columns u w → IsPair (step_at columns rows pairs k) u w → ⊥
large_no_pair columns rows pairs k u w large p = omega (arith, pair_of_step_bound columns rows pairs k u w p)

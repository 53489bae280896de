-- A list after a ray was kept or dropped by its sign.
use Rattle.std.specs.Prelude.{◌≡◌, List, [], ◌∷◌, ◌++◌}
use Rattle.ray_steps.specs.declared.rays.RayWithSupport.{RayWithSupport}
use Rattle.ray_steps.specs.declared.signs.Sign.{Sign}
use Rattle.ray_steps.specs.declared.signs.Sign.TheVariants.{Zero, Positive, Negative}

-- the ray is appended if the sign is zero, and else dropped
abbrev pub AppendsIfZero : Sign → RayWithSupport → List RayWithSupport → List RayWithSupport → Type 0
AppendsIfZero Zero kept old new = new ≡ old ++ kept ∷ []
AppendsIfZero (Positive value) kept old new = new ≡ old
AppendsIfZero (Negative value) kept old new = new ≡ old

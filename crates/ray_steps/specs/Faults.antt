-- What the error of a step names.
use Rattle.std.specs.Prelude.{◌≡◌, ℕ, List}
use Rattle.cone_definitions.specs.Rows.{Row}
use Rattle.cone_definitions.specs.Surfaces.{Clash}
use Rattle.cone_definitions.specs.Elimination.{Named}
use Rattle.cone_definitions.specs.declared.LargeKind.TheVariants.{Value, Pair}
use Rattle.ray_steps.specs.declared.rays.StepFault.{StepFault}
use Rattle.ray_steps.specs.declared.rays.StepFault.TheVariants.{Large, NoMemory}
use Rattle.cone_arithmetic.specs.Combinations.{HasFirstExceeding}
use Rattle.ray_steps.specs.declared.signs.Sign.{Sign}
use Rattle.ray_steps.specs.Signs.{IsFirstLargeRay, IsFirstLargePair}

-- if the error is Large, P holds of what it names
abbrev pub IfLarge : (Named → Type 0) → StepFault → Type 0
IfLarge P (Large kind) = P kind
IfLarge P NoMemory = Unit {0}

-- the error names the first ray at which a part of the row exceeds the limit
abbrev pub IsFirstLargeValue : ℕ → Row → List (List ℕ) → Named → Type 0
IsFirstLargeValue limit row rays (Value x) = IsFirstLargeRay limit row rays x
IsFirstLargeValue limit row rays (Pair u w) = ⊥

-- the error names the pair u, w, and an entry of its combination exceeds the limit
abbrev pub IsLargeSumOf : ℕ → ℕ → ℕ → List ℕ → List ℕ → Named → Type 0
IsLargeSumOf limit at_u at_w u w (Value x) = ⊥
IsLargeSumOf limit at_u at_w u w (Pair x y) = (x ≡ u) × (y ≡ w) × ((column : ℕ) × HasFirstExceeding limit at_u at_w u w column)

-- the error names the first pair of which an entry exceeds the limit
abbrev pub IsFirstLargeSum : ℕ → List Clash → List (List ℕ) → List Sign → Named → Type 0
IsFirstLargeSum limit pairs rays signs (Value x) = ⊥
IsFirstLargeSum limit pairs rays signs (Pair u w) = IsFirstLargePair limit pairs rays signs u w

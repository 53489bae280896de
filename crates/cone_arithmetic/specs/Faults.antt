-- When each error occurs.
use Rattle.std.specs.Prelude.{ℕ, ◌<◌, List, [], length, slice_index_or}
use Rattle.cone_definitions.specs.Rows.{Row, IsZeroAt}
use Rattle.cone_definitions.specs.Elimination.{HasLargePart, HasPartsWithin}
use Rattle.cone_definitions.specs.HoldingRows.{HoldWithinBefore}
use Rattle.cone_arithmetic.specs.Combinations.{HasFirstExceeding, IsFirstExceeding}
use Rattle.cone_arithmetic.specs.declared.ray.CombineFault.{CombineFault}
use Rattle.cone_arithmetic.specs.declared.ray.CombineFault.TheVariants.{Passed as CombinePassed, NoMemory}
use Rattle.cone_arithmetic.specs.declared.system.SolutionFault.{SolutionFault}
use Rattle.cone_arithmetic.specs.declared.system.SolutionFault.TheVariants.{Passed, NotZero}

-- why two rays are not combined
abbrev pub CombineFails : ℕ → ℕ → ℕ → List ℕ → List ℕ → CombineFault → Type 0
CombineFails limit at_u at_w u w (CombinePassed column) = HasFirstExceeding limit at_u at_w u w column
CombineFails limit at_u at_w u w NoMemory = Unit {0}

-- why the entries of a sum are not listed
abbrev pub PassesAt : ℕ → List ℕ → CombineFault → Type 0
PassesAt limit z (CombinePassed column) = IsFirstExceeding limit z column
PassesAt limit z NoMemory = Unit {0}

-- row i is the first that is not 0 at x with parts within the limit, and a part exceeds it
pub record ExceedsAt (limit : ℕ) (rows : List Row) (x : List ℕ) (i : ℕ) : Type 0 where
  pub in_range : i < length rows
  pub earlier : HoldWithinBefore limit rows x i
  pub exceeded : HasLargePart limit (slice_index_or rows i []) x

-- row i is the first that is not 0 at x with parts within the limit, and it is not 0
pub record IsNotZeroAt (limit : ℕ) (rows : List Row) (x : List ℕ) (i : ℕ) : Type 0 where
  pub in_range : i < length rows
  pub earlier : HoldWithinBefore limit rows x i
  pub within : HasPartsWithin limit (slice_index_or rows i []) x
  pub not_zero : ¬ IsZeroAt (slice_index_or rows i []) x

-- why a vector is no solution
abbrev pub SolutionFails : ℕ → List Row → List ℕ → SolutionFault → Type 0
SolutionFails limit rows x (Passed row) = ExceedsAt limit rows x row
SolutionFails limit rows x (NotZero row) = IsNotZeroAt limit rows x row

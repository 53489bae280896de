-- Why no list is found: in a row's step, at the rays of the rows before it, a number exceeds MAX_ENTRY.
use Rattle.std.specs.Prelude.{◌≡◌, ℕ, ◌⊎◌, List, ◌∷◌, ◌++◌, Bool}
use Rattle.cone_arithmetic.specs.declared.numbers.TheConstants.{MAX_ENTRY}
use Rattle.cone_definitions.specs.Rows.{Row}
use Rattle.cone_definitions.specs.Elimination.{Named}
use Rattle.ray_steps.specs.Clashes.{ClashData}
use Rattle.ray_steps.specs.Faults.{IsFirstLargeValue}
use Rattle.ray_steps.specs.Rays.{rays_of}
use Rattle.ray_steps.specs.Steps.{StepData, IsStepOf, IsFirstLargeOf}
use Rattle.lazy_columns.specs.declared.late_rays.LateRays.{LateRays}
use Rattle.lazy_columns.specs.Late.{AreLate}
use Rattle.lazy_columns.specs.Fresh.{oriented}

-- named is the first pair of the step of the row, or of the negated row, whose combination has an entry above MAX_ENTRY
pub record PassesAtPair (clashes : ClashData) (row : Row) (rays : List (List ℕ)) (named : Named) : Type 0 where
  pub is_negated : Bool
  pub step : StepData
  pub is : IsStepOf MAX_ENTRY clashes (oriented is_negated row) rays step
  pub passes : IsFirstLargeOf step named

-- a ray at which a part of the row exceeds MAX_ENTRY, or a pair at which an entry does
abbrev pub PassesAt : ClashData → Row → List (List ℕ) → Named → Type 0
PassesAt clashes row rays named = IsFirstLargeValue MAX_ENTRY row rays named ⊎ PassesAtPair clashes row rays named

-- PassesAt, at the rays of the rows before that are 0 at each column that has not entered
pub record PassesBefore (clashes : ClashData) (before : List Row) (row : Row) (named : Named) : Type 0 where
  pub late : LateRays
  pub are_late : AreLate clashes.columns before clashes.pairs late
  pub passes : PassesAt clashes row (rays_of late.ray_list.items) named

-- PassesBefore, for any rows of which late has the rays
abbrev pub PassesNext : ClashData → Row → LateRays → Named → Type 0
PassesNext clashes row late named = (before : List Row) → AreLate clashes.columns before clashes.pairs late → PassesBefore clashes before row named

-- for some first rows, a number of the next row's step exceeds MAX_ENTRY
pub record HasPassedStep (clashes : ClashData) (rows : List Row) : Type 0 where
  pub before : List Row
  pub row : Row
  pub after : List Row
  pub rows_are : rows ≡ before ++ row ∷ after
  pub named : Named
  pub passes : PassesBefore clashes before row named

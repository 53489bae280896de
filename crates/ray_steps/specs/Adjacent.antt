-- Rays whose adjacent rays are looked for, and what was found.
use Rattle.std.specs.Prelude.{◌≡◌, ℕ, ◌<◌, List, length, slice_index_or, Contains, IfSome}
use Rattle.std.specs.List.{All, AllPairs}
use Rattle.cone_definitions.specs.Vectors.{ray_at}
use Rattle.support_bits.specs.Columns.{support_of}
use Rattle.support_table.specs.Joins.{AreClashingColumns}
use Rattle.support_table.specs.declared.outer.Outer.{Outer}
use Rattle.support_table.specs.declared.parts.Found.{Found}
use Rattle.ray_steps.specs.Signs.{IsSignedPair}
use Rattle.ray_steps.specs.Steps.{StepData, IsAdjacentIfAdmissible}

-- a ray of the step with its support and the columns that clash with it
pub record IsOuterOf (step : StepData) (it : Outer) : Type 0 where
  pub in_range : it.place < length step.rays
  pub support_is : it.support ≡ support_of (ray_at step.rays it.place)
  pub wide : length it.support ≡ step.columns
  pub joined : AreClashingColumns step.pairs it.support it.joined

-- the same for ray i
abbrev pub IsOuterAt : StepData → ℕ → Outer → Type 0
IsOuterAt step i it = (it.place ≡ i) × IsOuterOf step it

-- rays, ascending, that are adjacent to ray i unless they clash with it, among which are all that it is combined with
pub record AreAdjacentPlaces (step : StepData) (i : ℕ) (places : List ℕ) : Type 0 where
  pub in_range : All (λ j. j < length step.rays) places
  pub ascending : AllPairs (λ one other. one < other) places
  pub adjacent : All (IsAdjacentIfAdmissible step i) places
  pub complete : (j : ℕ) → IsSignedPair step.pairs step.rays step.signs i j → Contains places j

-- an entry for each ray, and each list has such rays
pub record AreAdjacentLists (step : StepData) (found : List Found) : Type 0 where
  pub count : length found ≡ length step.rays
  pub each : (i : ℕ) (d : Found) → i < length found → IfSome (slice_index_or found i d).places (λ list. AreAdjacentPlaces step i list.items)

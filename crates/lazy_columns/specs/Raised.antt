-- Rays with the entry that a row leaves for a column.
use Rattle.std.specs.Prelude.{◌≡◌, ◌≢◌, ℕ, ◌<◌, ◌≤◌, ◌⊎◌, List, [], ◌∷◌, ◌++◌, length, slice_index, slice_index_or, slice_set, Contains}
use Rattle.std.specs.List.{All, AllPairs}
use Rattle.cone_definitions.specs.Vectors.{ray_at}
use Rattle.cone_definitions.specs.Rows.{Row, IsSolution}
use Rattle.cone_definitions.specs.Surfaces.{Clash}
use Rattle.ray_steps.specs.declared.rays.RayWithSupport.{RayWithSupport}
use Rattle.ray_steps.specs.declared.signs.Sign.{Sign}
use Rattle.ray_steps.specs.declared.signs.Sign.TheVariants.{Zero, Positive, Negative}
use Rattle.ray_steps.specs.Signs.{AreSigns, IsSignedPair, ComesFromPlaces, GivesFrom, IsStepAt}

-- the entry that a row with coefficient 1 in a column leaves for it: 0 if the row is zero, its magnitude if it is
-- negative
abbrev pub IsLeft : Sign → ℕ → Type 0
IsLeft Zero left = left ≡ 0
IsLeft (Positive value) left = ⊥
IsLeft (Negative value) left = left ≡ value

-- the column is in range, and the ray is 0 there
pub record HasRoom (column : ℕ) (kept : RayWithSupport) : Type 0 where
  pub in_range : column < length kept.ray
  pub gone : slice_index kept.ray column ≡ 0

-- the ray is appended with the entry that is left for the column, or left out
abbrev pub AppendsRaised : ℕ → Sign → RayWithSupport → List RayWithSupport → List RayWithSupport → Type 0
AppendsRaised column Zero kept old new = new ≡ old ++ kept ∷ []
AppendsRaised column (Positive value) kept old new = new ≡ old
AppendsRaised column (Negative value) kept old new = (raised : RayWithSupport) × (raised.ray ≡ slice_set kept.ray column value) × (new ≡ old ++ raised ∷ [])

-- x is a ray with index m or more, with the entry that is left for the column
pub record ComesFromRaised (rays : List (List ℕ)) (signs : List Sign) (column m : ℕ) (x : List ℕ) : Type 0 where
  pub place : ℕ
  pub from : m ≤ place
  pub in_range : place < length rays
  pub left : ℕ
  pub leaves : IsLeft (slice_index_or signs place Zero) left
  pub is : x ≡ slice_set (ray_at rays place) column left

-- a step at which each solution so far is 0 in the column
pub record IsFreshStepAt (limit : ℕ) (pairs : List Clash) (rays : List (List ℕ)) (signs : List Sign) (column : ℕ) : Type 0 where
  pub step : IsStepAt limit pairs rays signs
  pub in_range : column < step.columns
  pub gone : (x : List ℕ) → IsSolution step.columns step.before x → slice_index x column ≡ 0

-- the list has the rays from index m on with the entry left for the column and the combinations of all pairs, each
-- once, and nothing else
pub record IsRaisedFrom (limit : ℕ) (pairs : List Clash) (rays : List (List ℕ)) (signs : List Sign) (column m : ℕ) (next : List (List ℕ)) : Type 0 where
  pub comes : All (λ x. ComesFromRaised rays signs column m x ⊎ ComesFromPlaces limit pairs rays signs (length rays) 0 x) next
  pub keeps : (k left : ℕ) → m ≤ k → k < length rays → IsLeft (slice_index_or signs k Zero) left → Contains next (slice_set (ray_at rays k) column left)
  pub gives : (u w : ℕ) → IsSignedPair pairs rays signs u w → GivesFrom limit pairs rays signs next u w
  pub separate : IsFreshStepAt limit pairs rays signs column → AllPairs (λ x y. x ≢ y) next

-- the rays raised by the signs of a row
pub record AreRaised (limit : ℕ) (pairs : List Clash) (row : Row) (column : ℕ) (rays next : List (List ℕ)) : Type 0 where
  pub signs : List Sign
  pub signed : AreSigns limit row rays signs
  pub raised : IsRaisedFrom limit pairs rays signs column 0 next

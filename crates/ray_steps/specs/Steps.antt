-- A step as one value, its invariant, and the combinations of its pairs.
use Rattle.std.specs.Prelude.{◌≡◌, ℕ, ◌<◌, ◌⊎◌, List, length, map, IfSome}
use Rattle.std.specs.List.{All}
use Rattle.cone_definitions.specs.Surfaces.{Clash, IsAdmissibleUnion}
use Rattle.ray_steps.specs.declared.rays.RayWithSupport.{RayWithSupport}
use Rattle.ray_steps.specs.declared.signs.Sign.{Sign}
use Rattle.ray_steps.specs.Rays.{rays_of, AreOfWidth}
use Rattle.ray_steps.specs.Signs.{IsBoundedSign, IsAdjacentPair, IsMadeUpTo, AreSigns}
use Rattle.ray_steps.specs.CompatibleLists.{HaveCompatible}
use Rattle.ray_steps.specs.Faults.{IsFirstLargeSum}
use Rattle.cone_definitions.specs.Elimination.{Named}
use Rattle.cone_definitions.specs.Rows.{Row}
use Rattle.cone_definitions.specs.Vectors.{ray_at}
use Rattle.support_bits.specs.Columns.{support_of}
use Rattle.support_table.specs.Joins.{AreClashingColumns}
use Rattle.ray_steps.specs.Negated.{negated_sign}
use Rattle.ray_steps.specs.declared.combinations.Combinations.{Combinations}
use Rattle.ray_steps.specs.declared.combinations.CombinationsSoFar.{CombinationsSoFar}
use Rattle.ray_steps.specs.declared.combinations.ThirdRaySearch.{ThirdRaySearch}
use Rattle.ray_steps.specs.Clashes.{ClashData}
use Rattle.ray_steps.specs.Unions.{HaveSmallUnions, MakeSinglesPairs}

-- a step: the number of columns, the clashing pairs, the rays, the sign of the row at each, and the limit
pub record StepData : Type 0 where
  pub columns : ℕ
  pub pairs : List Clash
  pub rays : List (List ℕ)
  pub signs : List Sign
  pub limit : ℕ

-- the rays of a step: each has columns entries, the union of an adjacent pair has at most `most` columns, and a ray of
-- a single column is adjacent to each ray that it is compatible with
pub record AreStepRays (columns most : ℕ) (pairs : List Clash) (ray_list : List RayWithSupport) : Type 0 where
  pub widths : AreOfWidth columns ray_list
  pub small : HaveSmallUnions columns most pairs (rays_of ray_list)
  pub singles : MakeSinglesPairs pairs (rays_of ray_list)

-- the invariant of a step
pub record IsStep (columns : ℕ) (pairs : List Clash) (ray_list : List RayWithSupport) (signs : List Sign) (most limit : ℕ) : Type 0 where
  pub rays : AreStepRays columns most pairs ray_list
  pub count : length signs ≡ length ray_list
  pub bounded : All (IsBoundedSign limit) signs

-- the list consists of the combinations of the pairs whose first ray has an index below i; `compatible_list`, if given,
-- are compatible rays
pub record AreMadeBelow (step : StepData) (i : ℕ) (made : CombinationsSoFar) : Type 0 where
  pub so_far : IsMadeUpTo step.limit step.pairs step.rays step.signs i 0 (rays_of made.ray_list.items)
  pub widths : AreOfWidth step.columns made.ray_list.items
  pub compatible_list : IfSome made.compatible_list (HaveCompatible step.rays step.columns)

-- the list consists of the combinations of the pairs before i, j
pub record AreMadeTo (step : StepData) (i j : ℕ) (ray_list : List RayWithSupport) : Type 0 where
  pub so_far : IsMadeUpTo step.limit step.pairs step.rays step.signs i j (rays_of ray_list)
  pub widths : AreOfWidth step.columns ray_list

-- rays i and j are adjacent unless the union of their supports contains a clashing pair
abbrev pub IsAdjacentIfAdmissible : StepData → ℕ → ℕ → Type 0
IsAdjacentIfAdmissible step i j = IsAdmissibleUnion step.pairs (ray_at step.rays i) (ray_at step.rays j) → IsAdjacentPair step.pairs step.rays i j

-- a search for the third rays of ray i
pub record IsSearchAt (step : StepData) (i : ℕ) (search : ThirdRaySearch) : Type 0 where
  pub in_range : i < length step.rays
  pub joined : AreClashingColumns step.pairs (support_of (ray_at step.rays i)) search.joined
  pub compatible_list : IfSome search.compatible_list (HaveCompatible step.rays step.columns)

-- the list consists of the combinations of all pairs of the step
pub record AreMadeOf (step : StepData) (ray_list : List RayWithSupport) : Type 0 where
  pub made : IsMadeUpTo step.limit step.pairs step.rays step.signs (length step.signs) 0 (rays_of ray_list)
  pub widths : AreOfWidth step.columns ray_list

-- the error names the first pair of the step of which an entry exceeds the limit
abbrev pub IsFirstLargeOf : StepData → Named → Type 0
IsFirstLargeOf step = IsFirstLargeSum step.limit step.pairs step.rays step.signs

-- step is the step of the row at the rays, under the clashing pairs
pub record IsStepOf (limit : ℕ) (clashes : ClashData) (row : Row) (rays : List (List ℕ)) (step : StepData) : Type 0 where
  pub columns : step.columns ≡ clashes.columns
  pub pairs : step.pairs ≡ clashes.pairs
  pub rays_are : step.rays ≡ rays
  pub limit_is : step.limit ≡ limit
  pub signed : AreSigns limit row rays step.signs

-- the step of the negated row
abbrev pub negated_step : StepData → StepData
negated_step step = record { columns = step.columns; pairs = step.pairs; rays = step.rays; signs = map negated_sign step.signs; limit = step.limit }

-- the error names the first pair of which an entry exceeds the limit, of the step or of the step of the negated row
abbrev pub IsFirstLargeEitherWay : StepData → Named → Type 0
IsFirstLargeEitherWay step kind = IsFirstLargeOf step kind ⊎ IsFirstLargeOf (negated_step step) kind

-- the rays and signs of the step, and the combinations of all its pairs
pub record AreCombinedOf (step : StepData) (parts : Combinations) : Type 0 where
  pub rays_are : rays_of parts.ray_list.items ≡ step.rays
  pub signs_are : parts.signs.items ≡ step.signs
  pub widths : AreOfWidth step.columns parts.ray_list.items
  pub made : AreMadeOf step parts.made.items
  pub count : length parts.signs.items ≡ length parts.ray_list.items

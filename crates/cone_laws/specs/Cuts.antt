-- The bound by the steps that cut. A step whose row is 0 at all rays changes nothing, and does not count.
use Rattle.std.specs.Prelude.{◌≡◌, ◌==◌, ℕ, ◌+◌, ◌<◌, ◌≤◌, Bool, not, List, [], length, slice_index_or}
use Rattle.std.specs.List.{All, count_by, list_all, range_with_len}
use Rattle.cone_definitions.specs.Rows.{Row, plus_part, minus_part, IsZeroAt}
use Rattle.cone_definitions.specs.Surfaces.{Clash, PairsAreOfTwoColumns, IsAdmissibleUnion, IsSurfaceList}
use Rattle.cone_definitions.specs.Elimination.{Step, step_at, IsPair}
use Rattle.cone_definitions.specs.Enumeration.{IsNextList, unit_vectors}
use Rattle.cone_definitions.specs.Vectors.{ray_at}
use Rattle.cone_laws.specs.Unions.{union_size, HasThirdPlace}

-- the surface list of some rows, at most this many
pub record IsListOfAtMost (columns : ℕ) (pairs : List Clash) (count : ℕ) (rays : List (List ℕ)) : Type 0 where
  pub rows : List Row
  pub limited : length rows ≤ count
  pub surfaces : IsSurfaceList columns rows pairs rays

-- the rays before a step and after it
pub record IsStepOn (step : Step) (rays next : List (List ℕ)) : Type 0 where
  pub surfaces : IsSurfaceList step.columns step.before step.pairs rays
  pub next_list : IsNextList step rays next

-- the first list needs no row
abbrev pub UnitVectorsAreOfNoRow : Type 0
UnitVectorsAreOfNoRow = (columns : ℕ) (pairs : List Clash) → PairsAreOfTwoColumns pairs → IsListOfAtMost columns pairs 0 (unit_vectors columns)

-- where the row is 0 at all rays, the next list is the same
abbrev pub FlatStepsKeepTheList : Type 0
FlatStepsKeepTheList = (step : Step) (rays next : List (List ℕ)) → IsStepOn step rays next → All (IsZeroAt step.row) rays → next ≡ rays

-- and else it needs one row more
abbrev pub StepsNeedOneRow : Type 0
StepsNeedOneRow = (step : Step) (rays next : List (List ℕ)) (count : ℕ) → IsStepOn step rays next →
    IsListOfAtMost step.columns step.pairs count rays → IsListOfAtMost step.columns step.pairs (count + 1) next

-- the union of a pair has at most two columns more than the rays need rows
abbrev pub PairUnionsAreSmall : Type 0
PairUnionsAreSmall = (step : Step) (rays : List (List ℕ)) (count : ℕ) (u w : List ℕ) → IsSurfaceList step.columns step.before step.pairs rays →
    IsListOfAtMost step.columns step.pairs count rays → IsPair step u w → union_size step.columns u w ≤ count + 2

-- a union with more columns that holds no clashing pair contains the support of a ray at a third place
abbrev pub LargeUnionsOfBoundedHaveThird : Type 0
LargeUnionsOfBoundedHaveThird = (columns : ℕ) (pairs : List Clash) (count : ℕ) (rays : List (List ℕ)) → IsListOfAtMost columns pairs count rays →
    (i j : ℕ) → i < length rays → j < length rays → IsAdmissibleUnion pairs (ray_at rays i) (ray_at rays j) →
    count + 2 < union_size columns (ray_at rays i) (ray_at rays j) → HasThirdPlace rays i j

-- whether the row is 0 at all of the rays
abbrev pub is_flat : Row → List (List ℕ) → Bool
is_flat row rays = list_all (λ ray. plus_part row ray == minus_part row ray) rays

-- how many of the first k steps have a row that is not 0 at all rays
abbrev pub cuts_before : List Row → (ℕ → List (List ℕ)) → ℕ → ℕ
cuts_before rows lists k = count_by (λ i. not (is_flat (slice_index_or rows i []) (lists i))) (range_with_len 0 k)

-- an enumeration: from the unit vectors through a next list at each step
pub record AreLists (columns : ℕ) (rows : List Row) (pairs : List Clash) (lists : ℕ → List (List ℕ)) : Type 0 where
  pub separate : PairsAreOfTwoColumns pairs
  pub first : lists 0 ≡ unit_vectors columns
  pub next : (k : ℕ) → k < length rows → IsNextList (step_at columns rows pairs k) (lists k) (lists (k + 1))

-- in an enumeration the union of a pair has at most two columns more than there are steps before that cut
abbrev pub PairsAreSmallByCuts : Type 0
PairsAreSmallByCuts = (columns : ℕ) (rows : List Row) (pairs : List Clash) (lists : ℕ → List (List ℕ)) → AreLists columns rows pairs lists →
    (k : ℕ) (u w : List ℕ) → k ≤ length rows → IsPair (step_at columns rows pairs k) u w → union_size columns u w ≤ cuts_before rows lists k + 2

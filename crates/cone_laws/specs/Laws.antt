-- The bound on the columns of a pair: two more than the rows before.
use Rattle.std.specs.Prelude.{◌≡◌, ℕ, ◌+◌, ◌<◌, ◌≤◌, List, length, ◌⊎◌}
use Rattle.cone_definitions.specs.Vectors.{IsInsideUnion, ray_at}
use Rattle.cone_definitions.specs.Rows.{Row, IsPrimitiveExtreme}
use Rattle.cone_definitions.specs.Surfaces.{Clash, IsAdmissibleUnion, IsSurfaceList}
use Rattle.cone_definitions.specs.Elimination.{Step, step_at, IsPair}
use Rattle.cone_laws.specs.Unions.{union_size, HasThirdPlace}

-- the union of the supports of u and w contains the support of no third primitive extreme solution
abbrev pub HasNoThird : ℕ → List Row → List ℕ → List ℕ → Type 0
HasNoThird columns rows u w = (v : List ℕ) → IsPrimitiveExtreme columns rows v → IsInsideUnion v u w → (v ≡ u) ⊎ (v ≡ w)

-- with no third solution inside, the union of two has at most two columns more than there are rows
abbrev pub FacesAreSmall : Type 0
FacesAreSmall = (columns : ℕ) (rows : List Row) (u w : List ℕ) → IsPrimitiveExtreme columns rows u → IsPrimitiveExtreme columns rows w →
    HasNoThird columns rows u w → union_size columns u w ≤ length rows + 2

-- so the union of a pair of a step has at most two columns more than there are rows before
abbrev pub PairsAreSmall : Type 0
PairsAreSmall = (step : Step) (u w : List ℕ) → IsPair step u w → union_size step.columns u w ≤ length step.before + 2

-- at step k, at most k + 2
abbrev pub PairsOfStepsAreSmall : Type 0
PairsOfStepsAreSmall = (columns : ℕ) (rows : List Row) (pairs : List Clash) (k : ℕ) (u w : List ℕ) → IsPair (step_at columns rows pairs k) u w →
    union_size columns u w ≤ k + 2

-- rays whose union has more columns are no pair of the step
abbrev pub LargeUnionsAreNoPairs : Type 0
LargeUnionsAreNoPairs = (columns : ℕ) (rows : List Row) (pairs : List Clash) (k : ℕ) (u w : List ℕ) → k + 2 < union_size columns u w →
    ¬ IsPair (step_at columns rows pairs k) u w

-- in a surface list, if their union holds no clashing pair and has more columns, it contains the support of a ray at a
-- third place
abbrev pub LargeUnionsHaveThird : Type 0
LargeUnionsHaveThird = (columns : ℕ) (rows : List Row) (pairs : List Clash) (rays : List (List ℕ)) → IsSurfaceList columns rows pairs rays →
    (i j : ℕ) → i < length rays → j < length rays → IsAdmissibleUnion pairs (ray_at rays i) (ray_at rays j) →
    length rows + 2 < union_size columns (ray_at rays i) (ray_at rays j) → HasThirdPlace rays i j

-- and where there is no third place, it has no more
abbrev pub UnionsWithNoThirdAreSmall : Type 0
UnionsWithNoThirdAreSmall = (columns : ℕ) (rows : List Row) (pairs : List Clash) (rays : List (List ℕ)) → IsSurfaceList columns rows pairs rays →
    (i j : ℕ) → i < length rays → j < length rays → IsAdmissibleUnion pairs (ray_at rays i) (ray_at rays j) →
    ((k : ℕ) → k < length rays → IsInsideUnion (ray_at rays k) (ray_at rays i) (ray_at rays j) → (k ≡ i) ⊎ (k ≡ j)) →
    union_size columns (ray_at rays i) (ray_at rays j) ≤ length rows + 2

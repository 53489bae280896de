-- The bound by the rows that meet a union: rows with no term at a column of it are 0 inside it, and do not count.
use Rattle.std.specs.Prelude.{ℕ, ◌+◌, ◌<◌, ◌≤◌, Bool, List, [], ◌∷◌, ◌++◌, length}
use Rattle.std.specs.List.{count_by, list_any}
use Rattle.cone_definitions.specs.Vectors.{IsInsideUnion, ray_at}
use Rattle.cone_definitions.specs.Rows.{Row, IsSolution, IsPrimitiveExtreme}
use Rattle.cone_definitions.specs.Surfaces.{Clash, IsAdmissibleUnion, IsSurfaceList}
use Rattle.cone_definitions.specs.Elimination.{Step, IsPair}
use Rattle.cone_laws.specs.Unions.{is_in_union, union_size, HasThirdPlace}
use Rattle.cone_laws.specs.Laws.{HasNoThird}
use Rattle.cone_laws.specs.Cuts.{IsStepOn}

-- rows that are 0 at u and at w, and of which each solution inside the union solves all rows
pub record AreEnough (columns : ℕ) (rows others : List Row) (u w : List ℕ) : Type 0 where
  pub u_solution : IsSolution columns others u
  pub w_solution : IsSolution columns others w
  pub inside_union : (x : List ℕ) → IsSolution columns others x → IsInsideUnion x u w → IsSolution columns rows x

-- with no third solution inside, the union has at most two columns more than there are rows that are enough
abbrev pub EnoughRowsBoundUnions : Type 0
EnoughRowsBoundUnions = (columns : ℕ) (rows others : List Row) (u w : List ℕ) → IsPrimitiveExtreme columns rows u → IsPrimitiveExtreme columns rows w →
    HasNoThird columns rows u w → AreEnough columns rows others u w → union_size columns u w ≤ length others + 2

-- the row has a term at a column of the union
abbrev pub meets_union : List ℕ → List ℕ → Row → Bool
meets_union u w row = list_any (λ term. is_in_union u w term.0) row

-- how many of the rows have
abbrev pub meeting_count : List Row → List ℕ → List ℕ → ℕ
meeting_count rows u w = count_by (meets_union u w) rows

-- so it has at most two columns more than there are rows that meet it
abbrev pub MeetingRowsBoundUnions : Type 0
MeetingRowsBoundUnions = (columns : ℕ) (rows : List Row) (u w : List ℕ) → IsPrimitiveExtreme columns rows u → IsPrimitiveExtreme columns rows w →
    HasNoThird columns rows u w → union_size columns u w ≤ meeting_count rows u w + 2

abbrev pub MeetingRowsBoundPairs : Type 0
MeetingRowsBoundPairs = (step : Step) (u w : List ℕ) → IsPair step u w → union_size step.columns u w ≤ meeting_count step.before u w + 2

-- in a surface list, a union with more columns that holds no clashing pair contains the support of a ray at a third
-- place; the rows may be any of which it is the surface list
abbrev pub UnionsExceedingMeetingRowsHaveThird : Type 0
UnionsExceedingMeetingRowsHaveThird = (columns : ℕ) (rows : List Row) (pairs : List Clash) (rays : List (List ℕ)) → IsSurfaceList columns rows pairs rays →
    (i j : ℕ) → i < length rays → j < length rays → IsAdmissibleUnion pairs (ray_at rays i) (ray_at rays j) →
    meeting_count rows (ray_at rays i) (ray_at rays j) + 2 < union_size columns (ray_at rays i) (ray_at rays j) → HasThirdPlace rays i j

-- for which a step that cuts adds its row, whatever rows the list came from
abbrev pub StepsAddTheirRow : Type 0
StepsAddTheirRow = (step : Step) (rays next : List (List ℕ)) (rows : List Row) → IsStepOn step rays next →
    IsSurfaceList step.columns rows step.pairs rays → IsSurfaceList step.columns (rows ++ step.row ∷ []) step.pairs next

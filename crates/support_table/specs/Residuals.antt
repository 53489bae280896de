-- Candidates for adjacency to an outer ray, and their residuals: the columns that they have outside its support.
use Rattle.std.specs.Prelude.{◌≡◌, ◌≢◌, ℕ, ◌<◌, ◌≤◌, List, Bool, true, false, [], length, slice_index_or, Contains}
use Rattle.std.specs.List.{All, AllPairs}
use Rattle.support_bits.specs.Columns.{HasColumn, Meets}
use Rattle.support_table.specs.Counts.{columns_in_either}

-- the support with index place
abbrev pub support_at : List (List Bool) → ℕ → List Bool
support_at supports place = slice_index_or supports place []

-- the residual of s lies inside that of t: each column of s outside the outer ray is in t
abbrev pub IsResidualInside : List Bool → List Bool → List Bool → Type 0
IsResidualInside outer s t = (column : ℕ) → HasColumn s column → ¬ HasColumn outer column → HasColumn t column

-- a candidate: a ray other than the one with index own that contains none of joined and whose union with the outer ray
-- has at most most columns
pub record IsCandidate (supports : List (List Bool)) (outer joined : List Bool) (own most place : ℕ) : Type 0 where
  pub in_range : place < length supports
  pub other : place ≢ own
  pub separate : ¬ Meets (support_at supports place) joined
  pub near : columns_in_either outer (support_at supports place) ≤ most

-- a candidate whose residual contains that of no other candidate
pub record IsMinimal (supports : List (List Bool)) (outer joined : List Bool) (own most place : ℕ) : Type 0 where
  pub candidate : IsCandidate supports outer joined own most place
  pub minimal : (k : ℕ) → IsCandidate supports outer joined own most k → IsResidualInside outer (support_at supports k) (support_at supports place) → k ≡ place

-- the indices of all minimal candidates with the flag `true`, ascending
pub record AreMinimalOf (supports : List (List Bool)) (outer joined : List Bool) (own most : ℕ) (selected : List Bool) (places : List ℕ) : Type 0 where
  pub each : All (λ place. IsMinimal supports outer joined own most place × (slice_index_or selected place false ≡ true)) places
  pub ascending : AllPairs (λ one other. one < other) places
  pub complete : (place : ℕ) → IsMinimal supports outer joined own most place → slice_index_or selected place false ≡ true → Contains places place

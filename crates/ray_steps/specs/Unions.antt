-- Bounds on the unions of adjacent pairs, and rays of a single column.
use Rattle.std.specs.Prelude.{◌≡◌, ◌≢◌, ℕ, ◌<◌, ◌≤◌, ◌⊎◌, List, Bool, length, slice_index}
use Rattle.cone_definitions.specs.Surfaces.{Clash, IsAdmissibleUnion}
use Rattle.cone_definitions.specs.Vectors.{ray_at}
use Rattle.cone_laws.specs.Unions.{union_size}
use Rattle.support_table.specs.Counts.{columns_in_either}
use Rattle.ray_steps.specs.Signs.{IsAdjacentPair}

-- the union of each adjacent pair has at most `most` columns
abbrev pub HaveSmallUnions : ℕ → ℕ → List Clash → List (List ℕ) → Type 0
HaveSmallUnions columns most pairs rays =
    (i j : ℕ) → i < length rays → j < length rays → IsAdjacentPair pairs rays i j → union_size columns (ray_at rays i) (ray_at rays j) ≤ most

-- one of two supports has at most one column
abbrev pub HasSingle : List Bool → List Bool → Type 0
HasSingle a b = (columns_in_either a a ≤ 1) ⊎ (columns_in_either b b ≤ 1)

-- at most one entry is nonzero
abbrev pub IsSingle : List ℕ → Type 0
IsSingle x = (column : ℕ) × ((other : ℕ) → other ≢ column → slice_index x other ≡ 0)

-- two rays, one of which has a single column, are adjacent unless their union contains a clashing pair
abbrev pub MakeSinglesPairs : List Clash → List (List ℕ) → Type 0
MakeSinglesPairs pairs rays =
    (i j : ℕ) → i < length rays → j < length rays → IsSingle (ray_at rays i) ⊎ IsSingle (ray_at rays j) → IsAdmissibleUnion pairs (ray_at rays i) (ray_at rays j) → IsAdjacentPair pairs rays i j

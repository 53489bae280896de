-- The rays that are compatible with a given ray, and third rays among them.
use Rattle.std.specs.Prelude.{◌≡◌, ◌≢◌, ℕ, ◌<◌, List, Bool, [], map, length, slice_index, slice_index_or, Contains}
use Rattle.std.specs.List.{All}
use Rattle.cone_definitions.specs.Surfaces.{Clash}
use Rattle.cone_definitions.specs.Vectors.{ray_at}
use Rattle.support_bits.specs.Columns.{support_of, IsInsideUnionOf, Meets}
use Rattle.support_table.specs.Joins.{AreClashingColumns}
use Rattle.support_table.specs.Tables.{Table}
use Rattle.ray_steps.specs.declared.compatible_list.CompatibleRays.{CompatibleRays}

-- the support of ray k contains none of the columns
abbrev pub IsCompatible : List (List ℕ) → List Bool → ℕ → Type 0
IsCompatible rays columns k = ¬ Meets (support_of (ray_at rays k)) columns

-- the indices below n of the rays whose supports contain none of the columns
pub record AreCompatible (rays : List (List ℕ)) (columns : List Bool) (n : ℕ) (places : List ℕ) : Type 0 where
  pub in_range : All (λ k. k < n) places
  pub complete : (k : ℕ) → k < n → IsCompatible rays columns k → Contains places k

-- the table has the supports of the rays with the indices places
pub record HasSupportsOf (rays : List (List ℕ)) (columns : ℕ) (places : List ℕ) (table : Table) : Type 0 where
  pub width : table.columns ≡ columns
  pub supports : table.supports ≡ map (λ k. support_of (ray_at rays k)) places

-- the table has the supports of all rays
pub record HasAllSupports (rays : List (List ℕ)) (columns : ℕ) (table : Table) : Type 0 where
  pub width : table.columns ≡ columns
  pub supports : table.supports ≡ map support_of rays

-- the indices and supports of all rays that contain none of the columns `compatible_list.joined`
pub record HaveCompatible (rays : List (List ℕ)) (columns : ℕ) (compatible_list : CompatibleRays) : Type 0 where
  pub count : length compatible_list.joined ≡ columns
  pub places : AreCompatible rays compatible_list.joined (length rays) compatible_list.places.items
  pub table : HasSupportsOf rays columns compatible_list.places.items compatible_list.table

-- `compatible_list.joined` is the set of columns that clash with ray i, and `compatible_list` are the rays that contain
-- none of them
pub record AreCompatibleWith (pairs : List Clash) (rays : List (List ℕ)) (i columns : ℕ) (compatible_list : CompatibleRays) : Type 0 where
  pub joined : AreClashingColumns pairs (support_of (ray_at rays i)) compatible_list.joined
  pub listed : HaveCompatible rays columns compatible_list

-- the ray listed at m is neither i nor j, and its support lies in the union of a and b
abbrev pub IsThirdInside : List ℕ → List (List Bool) → ℕ → ℕ → List Bool → List Bool → ℕ → Type 0
IsThirdInside places supports i j a b m = (slice_index places m ≢ i) × (slice_index places m ≢ j) × IsInsideUnionOf (slice_index_or supports m []) a b

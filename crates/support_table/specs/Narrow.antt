-- Rays with some of their columns alone: those in use.
use Rattle.std.specs.Prelude.{◌≡◌, ℕ, ◌+◌, ◌/◌, ◌<◌, ◌≤◌, List, Bool, true, false, map, filter, length, slice_index_or}
use Rattle.std.specs.List.{All, range_with_len}
use Rattle.support_bits.specs.Columns.{HasColumn}
use Rattle.support_bits.specs.Words.{bit_of}
use Rattle.support_table.specs.declared.outer.Outer.{Outer}
use Rattle.support_table.specs.Tables.{Table}

-- the columns whose bits are set in the words, below `columns`, ascending
abbrev pub columns_of : ℕ → List ℕ → List ℕ
columns_of columns words = filter (bit_of words) (range_with_len 0 columns)

-- the columns of `used` that are in the support, by their indices in `used`
abbrev pub narrowed : List ℕ → List Bool → List Bool
narrowed used support = map (λ column. slice_index_or support column false) used

-- the outer ray with the columns of `used` alone
abbrev pub narrowed_outer : List ℕ → Outer → Outer
narrowed_outer used it = record { place = it.place; support = narrowed used it.support; joined = narrowed used it.joined }

-- the rays with the columns of `used` alone
abbrev pub narrowed_table : List ℕ → Table → Table
narrowed_table used rays = record { columns = length used; supports = map (narrowed used) rays.supports }

-- each column of the support is below `columns`, and its bit is set in the words
abbrev pub IsMarkedIn : ℕ → List ℕ → List Bool → Type 0
IsMarkedIn columns words support = (column : ℕ) → HasColumn support column → (column < columns) × (bit_of words column ≡ true)

-- words for `columns` columns, in which the bits of the columns of each support are set
pub record AreColumnsMarked (columns : ℕ) (supports : List (List Bool)) (words : List ℕ) : Type 0 where
  pub count : length words ≡ (columns + 63) / 64
  pub each : All (IsMarkedIn columns words) supports

-- at most `columns` columns, each below `columns`
pub record AreColumnsBelow (columns : ℕ) (used : List ℕ) : Type 0 where
  pub count : length used ≤ columns
  pub each : All (λ column. column < columns) used

-- the columns, ascending, whose bits are set in some words; among them are all columns of each ray and each outer ray
pub record AreUsed (rays : Table) (outers : List Outer) (used : List ℕ) : Type 0 where
  pub words : List ℕ
  pub is : used ≡ columns_of rays.columns words
  pub rays_marked : All (IsMarkedIn rays.columns words) rays.supports
  pub outers_marked : All (λ it. IsMarkedIn rays.columns words it.support) outers

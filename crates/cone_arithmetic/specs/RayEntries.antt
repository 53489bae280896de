-- What each ray's entries satisfy.
use Rattle.std.specs.Prelude.{ℕ, ◌<◌, ◌≤◌, ◌^◌, List, length, slice_index}
use Rattle.cone_definitions.specs.Vectors.{IsNonzero, IsPrimitive}
use Rattle.cone_arithmetic.specs.declared.entries.Entries.{Entries}
use Rattle.cone_arithmetic.specs.declared.entries.Entries.TheVariants.{Bytes, Small, Large}

-- the entries as a list of numbers, whether stored in 8, in 64 or in 128 bits
abbrev pub numbers_of : Entries → List ℕ
numbers_of (Bytes bytes) = bytes.items
numbers_of (Small small) = small.items
numbers_of (Large large) = large.items

-- entries up to a limit, not all 0, and of greatest common divisor 1
pub record IsReduced (limit : ℕ) (x : List ℕ) : Type 0 where
  pub width : length x < 2 ^ 32
  pub bounded : (column : ℕ) → slice_index x column ≤ limit
  pub nonzero : IsNonzero x
  pub primitive : IsPrimitive x

-- The entries of a view of entries that have at most 64 bits each.
use Rattle.std.specs.Prelude.{ℕ, List}
use Rattle.cone_arithmetic.specs.declared.narrow.Narrow.{Narrow}
use Rattle.cone_arithmetic.specs.declared.narrow.Narrow.TheVariants.{Bytes, Words}

-- the entries as a list of numbers, whether stored in 8 or in 64 bits
abbrev pub narrow_numbers : Narrow → List ℕ
narrow_numbers (Bytes bytes) = bytes.now
narrow_numbers (Words words) = words.now

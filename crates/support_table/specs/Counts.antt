-- The number of columns in the union of two supports.
use Rattle.std.specs.Prelude.{ℕ, ◌||◌, Bool, false, List, length, slice_index_or}
use Rattle.std.specs.List.{count_by, range_with_len}
use Rattle.support_bits.specs.Words.{bit_of}

-- the number of the first n bits that are set in a or in b
abbrev pub bits_in_either : ℕ → List ℕ → List ℕ → ℕ
bits_in_either n a b = count_by (λ column. bit_of a column || bit_of b column) (range_with_len 0 n)

-- the number of columns in the union
abbrev pub columns_in_either : List Bool → List Bool → ℕ
columns_in_either a b = count_by (λ column. slice_index_or a column false || slice_index_or b column false) (range_with_len 0 (length a))

-- Cores by the bits of a mask.
use Rattle.std.specs.Prelude.{ℕ, ◌/◌, ◌%◌, ◌^◌, Bool, ◌==◌, List, filter, sum_by}
use Rattle.table_definitions.specs.Permutation.{four}

-- whether the mask has bit v
abbrev pub has_bit : ℕ → ℕ → Bool
has_bit mask v = ((mask / (2 ^ v)) % 2) == 1

-- the vertices whose bits are set in the mask
abbrev pub core_of : ℕ → List ℕ
core_of mask = filter (has_bit mask) four

-- the mask of the vertices
abbrev pub mask_of : List ℕ → ℕ
mask_of vertices = sum_by (λ v. 2 ^ v) vertices

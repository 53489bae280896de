-- Edges as directed edges.
use Rattle.std.specs.Prelude.{ℕ, ◌+◌, ◌*◌, ◌/◌, ◌%◌, Bool, List, ◌==◌, slice_index}
use Rattle.table_definitions.specs.Places.{ends}
use Rattle.skeleton_class_laws.specs.Crossings.{pair_number}

-- edge i from its smaller end, and from its greater end
unfoldable pub forward : ℕ → ℕ
forward i = 12 * (i / 6) + pair_number (slice_index (ends (i % 6)) 0) (slice_index (ends (i % 6)) 1)

unfoldable pub backward : ℕ → ℕ
backward i = 12 * (i / 6) + pair_number (slice_index (ends (i % 6)) 1) (slice_index (ends (i % 6)) 0)

-- whether edge i, reversed, is in the class of edge j
unfoldable pub runs_against : List ℕ → ℕ → ℕ → Bool
runs_against directions j i = slice_index directions (forward j) == slice_index directions (backward i)

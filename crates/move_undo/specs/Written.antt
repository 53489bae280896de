-- The parts of a written move.
use Rattle.std.specs.Prelude.{ℕ, Bool, true, false, not, List, [], ◌∷◌, ◌++◌, length, filter, ◌==◌, if◌then◌else◌, decimal}
use Rattle.table_definitions.specs.Lists.{has}
use Rattle.table_definitions.specs.Permutation.{four, digits_of}
use Rattle.move_definitions.specs.MoveText.{core_words}

-- whether v is in the core, or is not if the second argument is false
abbrev pub is_chosen : List ℕ → Bool → ℕ → Bool
is_chosen core true v = has core v
is_chosen core false v = not (has core v)

-- the kind of the move and the number of its tetrahedron
unfoldable pub head_text : ℕ → ℕ → List ℕ
head_text size tet = (core_words size []).0 ++ (32 ∷ decimal tet)

-- what follows, up to the end of the line: nothing for a core of four vertices, the vertex outside a core of three,
-- otherwise the core
unfoldable pub core_tail : List ℕ → List ℕ
core_tail core = if length core == 4 then [] else (32 ∷ digits_of (filter (is_chosen core (not (length core == 3))) four))

-- The clashing pairs of one column with later ones.
use Rattle.std.specs.Prelude.{ℕ, List, map, filter}
use Rattle.table_definitions.specs.Lists.{below}
use Rattle.surface_definitions.specs.Coordinates.{columns}
use Rattle.surface_definitions.specs.declared.Coords.{Coords}
use Rattle.surface_definitions.specs.ClashPairs.{is_clash}

-- the pairs of a column with the later ones that it clashes with, ascending
unfoldable pub partners : Coords → ℕ → ℕ → List (ℕ × ℕ)
partners coords n first = filter (is_clash coords) (map (λ second. (first, second)) (below (columns coords n)))

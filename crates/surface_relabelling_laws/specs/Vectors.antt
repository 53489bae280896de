-- The vectors of a relabelled table: a relabelling maps the disc types of a tetrahedron to those of its image, as it
-- maps the vertices.
use Rattle.std.specs.Prelude.{ℕ, ◌+◌, ◌-◌, ◌*◌, ◌/◌, ◌%◌, List, [], length, map, ◌==◌, nat_lt, slice_index, if◌then◌else◌}
use Rattle.std.specs.List.{slice_index_or, position_or_len}
use Rattle.table_definitions.specs.Lists.{below}
use Rattle.table_definitions.specs.Permutation.{image}
use Rattle.table_definitions.specs.Relabelling.{Relabelling}
use Rattle.surface_definitions.specs.Coordinates.{triangles_each, before_octagons, columns_each, partner, keeping}
use Rattle.surface_definitions.specs.declared.Coords.{Coords}

-- the image of quad or octagon type k: the type that keeps the image of vertex 0 and that of its partner on one side
abbrev pub type_under : List ℕ → ℕ → ℕ
type_under p k = keeping (image p 0) (image p (partner k 0))

-- the image of the disc type with index i among the columns of its tetrahedron, whose vertices p permutes
unfoldable pub place_under : Coords → List ℕ → ℕ → ℕ
place_under coords p i =
    if nat_lt i (triangles_each coords) then image p i
    else (if nat_lt i (before_octagons coords) then triangles_each coords + type_under p (i - triangles_each coords)
    else before_octagons coords + type_under p (i - before_octagons coords))

-- the column of the image of the disc type in column c
unfoldable pub column_under : Coords → Relabelling → ℕ → ℕ
column_under coords by c =
    columns_each coords * slice_index by.images (c / columns_each coords)
    + place_under coords (slice_index_or by.perms (c / columns_each coords) []) (c % columns_each coords)

-- the vector in the relabelled table: the entry in column c is that of xs in the column whose image is c
unfoldable pub relabelled_vector : Coords → Relabelling → List ℕ → List ℕ
relabelled_vector coords by xs =
    map (λ c. slice_index xs (position_or_len (λ d. column_under coords by d == c) (below (length xs)))) (below (length xs))

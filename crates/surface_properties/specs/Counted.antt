-- The arcs of a surface, by tetrahedron.
use Rattle.std.specs.Prelude.{ℕ, ◌+◌, List, if◌then◌else◌}
use Rattle.surface_definitions.specs.declared.Coords.{Coords}
use Rattle.table_definitions.specs.Table.{Row, Face, glue}
use Rattle.skeleton_definitions.specs.Links.{is_first_side}
use Rattle.surface_definitions.specs.Characteristic.{arcs_in}

-- the number of arcs in a face, if it is a boundary face or the first of two glued ones, and else 0
abbrev pub counted : List Row → Coords → List ℕ → Face → ℕ
counted rows coords xs x = if is_first_side x (glue rows x) then arcs_in coords xs x else 0

-- counted, summed over the four faces of tetrahedron t
abbrev pub counted_in : List Row → Coords → List ℕ → ℕ → ℕ
counted_in rows coords xs t =
    counted rows coords xs (record { tet = t; face = 0 }) + counted rows coords xs (record { tet = t; face = 1 })
    + counted rows coords xs (record { tet = t; face = 2 }) + counted rows coords xs (record { tet = t; face = 3 })

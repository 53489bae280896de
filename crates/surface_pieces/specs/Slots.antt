-- The slots of a row of arcs: slot 4h + f is for arc number h of a disc in face f.
use Rattle.std.specs.Prelude.{ℕ, ◌+◌, ◌-◌, ◌/◌, ◌%◌, nat_lt, nat_le, if◌then◌else◌}
use Rattle.surface_definitions.specs.Coordinates.{has_octagons, partner, columns_each}
use Rattle.surface_definitions.specs.declared.Coords.{Coords}
use Rattle.surface_definitions.specs.Pieces.{NormalDisc}

-- the number of slots of a disc in the coordinates: a triangle or a quad has at most one arc in each face, an octagon
-- two
abbrev pub slots_each : Coords → ℕ
slots_each coords = if has_octagons coords then 8 else 4

-- the vertex around which a disc has the arc of a slot, by the index of the disc's column among those of its
-- tetrahedron; the face itself if the disc has no arc for the slot
abbrev pub slot_vertex : ℕ → ℕ → ℕ
slot_vertex place slot =
    if nat_le 7 place then partner ((place - 6 + slot / 4) % 3) (slot % 4)
    else if nat_le 4 slot then slot % 4
    else if nat_lt place 4 then place
    else partner (place - 4) (slot % 4)

-- slot_vertex, for the disc p
abbrev pub vertex_of_slot : Coords → NormalDisc → ℕ → ℕ
vertex_of_slot coords p slot = slot_vertex (p.column % columns_each coords) slot

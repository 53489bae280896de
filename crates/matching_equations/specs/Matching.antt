-- The rows of matching equations, face by face.
use Rattle.std.specs.Prelude.{ℕ, ℤ, List, [], map, Option, Some, None, if◌then◌else◌}
use Rattle.std.specs.List.{flat_map}
use Rattle.table_definitions.specs.Permutation.{four, others}
use Rattle.table_definitions.specs.Table.{Gluing, Row, Face, glue, other_side, is_face_before}
use Rattle.surface_definitions.specs.declared.Coords.{Coords}
use Rattle.surface_definitions.specs.Equations.{matching, row_of}

-- the rows of a glued face
unfoldable pub glued_rows : Coords → ℕ → Face → Gluing → List (List (ℕ × ℤ))
glued_rows coords n x g = map (row_of n) (map (matching coords x g) (others x.face))

abbrev pub rows_if_smaller : Coords → ℕ → Face → Option Gluing → List (List (ℕ × ℤ))
rows_if_smaller coords n x None = []
rows_if_smaller coords n x (Some g) = if is_face_before x (other_side x g) then glued_rows coords n x g else []

-- the rows of a face, if it is glued and the first side
unfoldable pub face_rows : Coords → List Row → ℕ → Face → List (List (ℕ × ℤ))
face_rows coords rows n x = rows_if_smaller coords n x (glue rows x)

-- the rows of the faces of a tetrahedron
unfoldable pub tet_rows : Coords → List Row → ℕ → ℕ → List (List (ℕ × ℤ))
tet_rows coords rows n t = flat_map (λ f. face_rows coords rows n (record { tet = t; face = f })) four

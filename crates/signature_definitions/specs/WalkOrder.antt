-- Walk-ordered tables: faces are taken in ascending order, and tetrahedron 0 is seen at the start.
use Rattle.std.specs.Prelude.{ℕ, Bool, true, false, ◌&&◌, ◌||◌, not, List, length, find, ◌==◌, Option, Some, None, IsTrue}
use Rattle.std.specs.List.{list_any, list_all}
use Rattle.table_definitions.specs.Lists.{below, same_list}
use Rattle.table_definitions.specs.Permutation.{identity}
use Rattle.table_definitions.specs.Table.{Gluing, Row, Face, glue, faces, is_face_before}

-- whether a face is glued to tetrahedron u
abbrev pub is_glued_to : ℕ → Option Gluing → Bool
is_glued_to u None = false
is_glued_to u (Some g) = g.tet == u

-- whether tetrahedron u is seen before the face x is read: it is 0, or an earlier face is glued to it
abbrev pub is_seen : List Row → Face → ℕ → Bool
is_seen rows x u = (u == 0) || list_any (λ y. is_face_before y x && is_glued_to u (glue rows y)) (faces (length rows))

-- whether a gluing reaches a tetrahedron that is seen, or the least one that is not, by the identity
abbrev pub is_ordered_gluing : List Row → Face → Option Gluing → Bool
is_ordered_gluing rows x None = true
is_ordered_gluing rows x (Some g) = is_seen rows x g.tet || (list_all (is_seen rows x) (below g.tet) && same_list g.perm identity)

-- whether the tetrahedron of a face is seen before its faces are taken, and the face is glued in order
abbrev pub is_ordered_at : List Row → Face → Bool
is_ordered_at rows x = is_seen rows (record { tet = x.tet; face = 0 }) x.tet && is_ordered_gluing rows x (glue rows x)

-- the first face at which a table is not walk-ordered
unfoldable pub first_unordered : List Row → Option Face
first_unordered rows = find (λ x. not (is_ordered_at rows x)) (faces (length rows))

abbrev pub IsWalkOrdered : List Row → Type 0
IsWalkOrdered rows = IsTrue (list_all (is_ordered_at rows) (faces (length rows)))

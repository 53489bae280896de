-- The rows of a relabelled table in terms of the old rows.
use Rattle.std.specs.Prelude.{ℕ, List, [], ◌∷◌, Option, option_map}
use Rattle.std.specs.List.{slice_index_or}
use Rattle.table_definitions.specs.Permutation.{preimage}
use Rattle.table_definitions.specs.Table.{Gluing, Row, glue}
use Rattle.table_definitions.specs.Relabelling.{Relabelling, relabelled_place, gluing_under}

-- the gluing that corresponds to a gluing of tetrahedron t
abbrev pub moved : Relabelling → ℕ → Option Gluing → Option Gluing
moved by t o = option_map (λ g. gluing_under (relabelled_place by t) (relabelled_place by g.tet) g) o

-- the gluing of face k of the tetrahedron that t becomes
unfoldable pub moved_face : List Row → Relabelling → ℕ → ℕ → Option Gluing
moved_face rows by t k = moved by t (glue rows (record { tet = t; face = preimage (slice_index_or by.perms t []) k }))

unfoldable pub moved_row : List Row → Relabelling → ℕ → Row
moved_row rows by t = moved_face rows by t 0 ∷ moved_face rows by t 1 ∷ moved_face rows by t 2 ∷ moved_face rows by t 3 ∷ []

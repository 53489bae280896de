-- Signed tetrahedra: tetrahedron t with the sign true is 2 t, and with the sign false 2 t + 1.
use Rattle.std.specs.Prelude.{ℕ, ◌+◌, ◌-◌, ◌*◌, ◌/◌, ◌%◌, List, ◌≡◌, ◌<◌, Bool, Option, None, option_map, ◌==◌, nat_lt, length, slice_index, false, if◌then◌else◌}
use Rattle.std.specs.List.{slice_index_or}
use Rattle.table_definitions.specs.Permutation.{image, is_odd}
use Rattle.table_definitions.specs.Table.{Gluing, Row, glue}

-- the other of 0 and 1 across an even gluing
abbrev pub sign_by_gluing : Gluing → ℕ → ℕ
sign_by_gluing g s = if is_odd g.perm then s else 1 - s

-- the signed tetrahedron across face f
unfoldable pub crossed_sign : List Row → ℕ → ℕ → Option ℕ
crossed_sign rows i f = option_map (λ g. 2 * g.tet + sign_by_gluing g (i % 2)) (glue rows (record { tet = i / 2; face = f }))

-- a sign for each tetrahedron, true where its class with the sign true comes first
pub record AreSignsBy (classes : List ℕ) (n : ℕ) (signs : List Bool) : Type 0 where
  pub one_each : length signs ≡ n
  pub reported : (t : ℕ) → t < n → slice_index_or signs t false ≡ nat_lt (slice_index classes (2 * t)) (slice_index classes (2 * t + 1))

-- vertex i with the sign true is 2 i, and with the sign false 2 i + 1; the signed vertex across face f
unfoldable pub crossed_vertex_sign : List Row → ℕ → ℕ → Option ℕ
crossed_vertex_sign rows k f =
    if (k / 2 % 4) == f then None else option_map (λ (g : Gluing). 2 * (4 * g.tet + image g.perm (k / 2 % 4)) + sign_by_gluing g (k % 2)) (glue rows (record { tet = k / 8; face = f }))

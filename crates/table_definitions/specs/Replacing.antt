-- Rows of a table removed, and new rows inserted at given numbers.
use Rattle.std.specs.Prelude.{ℕ, ◌+◌, ◌-◌, not, List, [], length, map, filter, ◌==◌, Option, Some, None, option_and_then, slice_index, if◌then◌else◌}
use Rattle.std.specs.List.{flat_map, position_or_len, slice_index_or}
use Rattle.table_definitions.specs.Lists.{below, has, first_some, rank_without}
use Rattle.table_definitions.specs.Permutation.{four}
use Rattle.table_definitions.specs.Table.{Gluing, Row, Face, glue, other_side, inverse_gluing, same_face}

-- the numbers of the removed rows, and the new rows with their numbers in the new table; both ascend
pub record Replacement : Type 0 where
  pub removed : List ℕ
  pub fresh : List (ℕ × Row)

-- the length of the new table
abbrev pub replaced_length : List Row → Replacement → ℕ
replaced_length rows r = length rows - length r.removed + length r.fresh

-- the numbers of the rows that are kept, and those that they get, in one order
abbrev pub kept_numbers : List Row → Replacement → List ℕ
kept_numbers rows r = filter (λ t. not (has r.removed t)) (below (length rows))

abbrev pub free_numbers : List Row → Replacement → List ℕ
free_numbers rows r = filter (λ u. not (has (map (λ (x : ℕ × Row). x.0) r.fresh) u)) (below (replaced_length rows r))

abbrev pub number_of_kept : List Row → Replacement → ℕ → ℕ
number_of_kept rows r t = slice_index (free_numbers rows r) (rank_without r.removed t)

-- the inverse at face y of the new gluing g of face x, if that reaches y
abbrev pub inverse_if_reached : Face → Face → Gluing → Option Gluing
inverse_if_reached y x g = if same_face (other_side x g) y then Some (inverse_gluing x g) else None

abbrev pub fresh_faces : Replacement → List Face
fresh_faces r = flat_map (λ (x : ℕ × Row). map (λ f. record { tet = x.0; face = f }) four) r.fresh

abbrev pub fresh_row : Replacement → ℕ → Row
fresh_row r u = slice_index_or (map (λ (x : ℕ × Row). x.1) r.fresh) (position_or_len (λ (x : ℕ × Row). x.0 == u) r.fresh) []

-- the gluing of face y of a retained row to a new row, if a new gluing reaches it
abbrev pub back_to_fresh : Replacement → Face → Option Gluing
back_to_fresh r y = first_some (λ x. option_and_then (inverse_if_reached y x) (slice_index_or (fresh_row r x.tet) x.face None)) (fresh_faces r)

-- a retained face, now y, is glued as before to a retained row, and otherwise by the inverse of the new gluing that
-- reaches it
abbrev pub kept_gluing : List Row → Replacement → Face → Option Gluing → Option Gluing
kept_gluing rows r y None = None
kept_gluing rows r y (Some g) = if has r.removed g.tet then back_to_fresh r y else Some (record { tet = number_of_kept rows r g.tet; perm = g.perm })

abbrev pub kept_row : List Row → Replacement → ℕ → ℕ → Row
kept_row rows r t u = map (λ f. kept_gluing rows r (record { tet = u; face = f }) (glue rows (record { tet = t; face = f }))) four

-- row u of the new table
abbrev pub replaced_row : List Row → Replacement → ℕ → Row
replaced_row rows r u =
    if has (map (λ (x : ℕ × Row). x.0) r.fresh) u then fresh_row r u
    else kept_row rows r (slice_index (kept_numbers rows r) (position_or_len (λ v. v == u) (free_numbers rows r))) u

-- the new table
unfoldable pub replaced : List Row → Replacement → List Row
replaced rows r = map (replaced_row rows r) (below (replaced_length rows r))

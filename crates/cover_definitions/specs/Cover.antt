-- The double cover of a table: each tetrahedron has a copy on sheet 0 and a copy on sheet 1.
use Rattle.std.specs.Prelude.{◌≡◌, ℕ, ◌+◌, ◌-◌, ◌*◌, Bool, List, [], ◌++◌, length, map, replicate, nat_lt, ◌==◌, Option, Some, None, option_map, if◌then◌else◌}
use Rattle.std.specs.List.{slice_index_or}
use Rattle.table_definitions.specs.Lists.{below}
use Rattle.table_definitions.specs.Permutation.{identity, is_odd}
use Rattle.table_definitions.specs.Table.{max_tets, Gluing, Row, Face}
use Rattle.table_definitions.specs.Relabelling.{Relabelling}
use Rattle.skeleton_definitions.specs.Orientation.{sign_of, IsOrientable}
use Rattle.skeleton_definitions.specs.Skeleton.{IsOrientation}
use Rattle.cover_definitions.specs.declared.LargeCover.{LargeCover}

-- of the cover of n tetrahedra, tetrahedron u lies over one of them, on a sheet
abbrev pub over : ℕ → ℕ → ℕ
over n u = if nat_lt u n then u else u - n

abbrev pub sheet : ℕ → ℕ → ℕ
sheet n u = if nat_lt u n then 0 else 1

-- the one that lies over t on a sheet
abbrev pub above : ℕ → ℕ → ℕ → ℕ
above n t s = if s == 0 then t else n + t

-- the other sheet
abbrev pub other_sheet : ℕ → ℕ
other_sheet s = 1 - s

-- the sheet across a gluing: the same sheet if the gluing is odd, the other one if it is even
abbrev pub sheet_across : Gluing → ℕ → ℕ
sheet_across g s = if is_odd g.perm then s else other_sheet s

-- the gluing of the cover over a gluing that leaves a tetrahedron on a sheet
abbrev pub lifted : ℕ → ℕ → Gluing → Gluing
lifted n s g = record { tet = above n g.tet (sheet_across g s); perm = g.perm }

-- each face is glued as the face below it, if that is glued
unfoldable pub cover_row : List Row → ℕ → Row
cover_row rows u = map (option_map (lifted (length rows) (sheet (length rows) u))) (slice_index_or rows (over (length rows) u) [])

unfoldable pub cover : List Row → List Row
cover rows = map (cover_row rows) (below (2 * length rows))

-- no cover is made if it has more tetrahedra than the limit
abbrev pub too_large : LargeCover
too_large = record {}

abbrev pub cover_fault : List Row → Option LargeCover
cover_fault rows = if nat_lt max_tets (2 * length rows) then Some too_large else None

-- the face below a face of the cover
abbrev pub face_below : ℕ → Face → Face
face_below n x = record { tet = over n x.tet; face = x.face }

-- true on sheet 0 and false on sheet 1
unfoldable pub sheet_signs : ℕ → List Bool
sheet_signs n = map (λ u. sheet n u == 0) (below (2 * n))

-- each tetrahedron of the cover is mapped to the one over the same tetrahedron on the other sheet
unfoldable pub exchange : ℕ → Relabelling
exchange n = record { images = map (λ u. above n (over n u) (other_sheet (sheet n u))) (below (2 * n)); perms = replicate (2 * n) identity }

-- sheet s of a tetrahedron is mapped to copy s if the sign of the tetrahedron is true, and to the other copy if it is
-- false
abbrev pub copy_of : ℕ → List Bool → ℕ → ℕ
copy_of n signs u = if sign_of signs (over n u) then sheet n u else other_sheet (sheet n u)

unfoldable pub split : ℕ → List Bool → Relabelling
split n signs = record { images = map (λ u. above n (over n u) (copy_of n signs u)) (below (2 * n)); perms = replicate (2 * n) identity }

-- the split by the orientation of the table, or `None` if the table is not orientable
abbrev pub IsSplit : List Row → Option Relabelling → Type 0
IsSplit rows None = IsOrientable rows → ⊥
IsSplit rows (Some by) = (signs : List Bool) × IsOrientation rows (Some signs) × (by ≡ split (length rows) signs)

-- the table twice, the second time with n added to each tetrahedron
abbrev pub shifted : ℕ → Gluing → Gluing
shifted n g = record { tet = n + g.tet; perm = g.perm }

unfoldable pub two_copies : List Row → List Row
two_copies rows = rows ++ map (λ (row : Row). map (option_map (shifted (length rows))) row) rows

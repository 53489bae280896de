-- The greatest numbers in an enumeration of a table's vertex surfaces.
use Rattle.std.specs.Prelude.{◌≡◌, ℕ, ◌*◌, ◌^◌, ◌≤◌, List, length, slice_index, if◌then◌else◌}
use Rattle.std.specs.List.{range_with_len}
use Rattle.std.specs.List.Sorted.{IsPermutation}
use Rattle.cone_definitions.specs.Rows.{Row as EquationRow}
use Rattle.cone_definitions.specs.Surfaces.{IsVertexSurface, IsSurfaceList}
use Rattle.cone_definitions.specs.Elimination.{Named}
use Rattle.cone_definitions.specs.Orders.{AreNamed}
use Rattle.cone_definitions.specs.Listings.{Enumeration, AreWithin, IsListed, ExceedsLimit}
use Rattle.table_definitions.specs.Table.{Row, IsTable}
use Rattle.surface_definitions.specs.Coordinates.{has_octagons, columns, clash_list}
use Rattle.surface_definitions.specs.declared.Coords.{Coords}
use Rattle.surface_definitions.specs.QuadEquations.{AreEquations}
use Rattle.cone_bound_laws.specs.Caps.{caps_product}
use Rattle.cone_row_laws.specs.Listings.{IsBounded}
use Rattle.surface_equation_laws.specs.Caps.{is_free, group_of, cap_of, groups_of, size_of}

-- no entry of a vertex surface of n tetrahedra is above it
abbrev pub entry_bound : Coords → ℕ → ℕ
entry_bound coords n = if has_octagons coords then 8 * 4 ^ n else 4 ^ n

-- no number of a step is above it
abbrev pub number_bound : Coords → ℕ → ℕ
number_bound coords n = size_of coords n * (if has_octagons coords then 64 * 16 ^ n else 16 ^ n)

-- they are those of the certificate
abbrev pub CapsAreBounds : Type 0
CapsAreBounds = (coords : Coords) (n : ℕ) → (caps_product (cap_of coords n) (groups_of coords n) ≡ entry_bound coords n)
    × (size_of coords n * (entry_bound coords n * entry_bound coords n) ≡ number_bound coords n)

abbrev pub EntriesAreSmall : Type 0
EntriesAreSmall =
    (coords : Coords) (rows : List Row) (equations : List EquationRow) → IsTable rows → AreEquations coords rows equations → (x : List ℕ)
    → IsVertexSurface (columns coords (length rows)) equations (clash_list coords (length rows)) x → (j : ℕ) → slice_index x j ≤ entry_bound coords (length rows)

-- an enumeration of a table's equations with its clashing pairs, in any order
pub record IsOfTable (coords : Coords) (rows : List Row) (e : Enumeration) : Type 0 where
  pub table : IsTable rows
  pub equations : AreEquations coords rows e.system.rows
  pub columns : e.system.columns ≡ columns coords (length rows)
  pub pairs : e.pairs ≡ clash_list coords (length rows)

-- a limit that is at least the bound is what the certificate asks
abbrev pub TablesAreBounded : Type 0
TablesAreBounded = (coords : Coords) (rows : List Row) (e : Enumeration) → IsOfTable coords rows e → number_bound coords (length rows) ≤ e.limit
    → IsBounded e (is_free coords) (group_of coords (length rows)) (cap_of coords (length rows)) (groups_of coords (length rows)) (size_of coords (length rows))

-- in each order of the rows no number exceeds a limit that is at least the bound
abbrev pub TablesAreWithin : Type 0
TablesAreWithin = (coords : Coords) (rows : List Row) (e : Enumeration) → IsOfTable coords rows e → number_bound coords (length rows) ≤ e.limit
    → (taken : List ℕ) → IsPermutation (range_with_len 0 (length e.system.rows)) taken → AreWithin e.limit e.system e.pairs taken

-- nor at the rows that an order names in turn, as far as they go
abbrev pub NamedRowsAreWithin : Type 0
NamedRowsAreWithin = (coords : Coords) (rows : List Row) (e : Enumeration) → IsOfTable coords rows e → number_bound coords (length rows) ≤ e.limit
    → (taken : List ℕ) → AreNamed e.order e.system taken → AreWithin e.limit e.system e.pairs taken

-- so the surface list is what the enumeration gives
abbrev pub TablesAreListed : Type 0
TablesAreListed = (coords : Coords) (rows : List Row) (e : Enumeration) → IsOfTable coords rows e → number_bound coords (length rows) ≤ e.limit
    → (taken : List ℕ) (list : List (List ℕ)) → IsPermutation (range_with_len 0 (length e.system.rows)) taken → AreNamed e.order e.system taken
    → IsSurfaceList e.system.columns e.system.rows e.pairs list → IsListed e taken list

-- and nothing exceeds the limit
abbrev pub TablesDoNotExceed : Type 0
TablesDoNotExceed = (coords : Coords) (rows : List Row) (e : Enumeration) → IsOfTable coords rows e → number_bound coords (length rows) ≤ e.limit
    → (taken : List ℕ) (kind : Named) → ¬ ExceedsLimit e taken kind

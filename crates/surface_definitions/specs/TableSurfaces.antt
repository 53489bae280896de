-- The enumeration of the vertex surfaces of a table.
use Rattle.std.specs.Prelude.{ℕ, List, length}
use Rattle.table_definitions.specs.Table.{Row}
use Rattle.cone_definitions.specs.Rows.{Row as EquationRow}
use Rattle.cone_definitions.specs.Listings.{Enumeration}
use Rattle.cone_definitions.specs.declared.Order.{Order}
use Rattle.surface_definitions.specs.Coordinates.{columns, clash_list}
use Rattle.surface_definitions.specs.declared.Coords.{Coords}

-- the vertex surfaces of a table, by its equations
abbrev pub table_enumeration : Coords → Order → ℕ → List Row → List EquationRow → Enumeration
table_enumeration coords order limit rows equations = record {
  system = record { columns = columns coords (length rows); rows = equations };
  pairs = clash_list coords (length rows);
  order = order;
  limit = limit;
}

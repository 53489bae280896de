-- Rows of a table, some of which are replaced.
use Rattle.std.specs.Prelude.{List}
use Rattle.table_definitions.specs.Table.{Row, IsTable}
use Rattle.table_definitions.specs.Replacing.{Replacement}
use Rattle.table_definitions.specs.Replaceable.{CanReplace}

-- the rows of a table, and what replaces some of them
pub record Exchange : Type 0 where
  pub rows : List Row
  pub by : Replacement

-- the rows are a table, and the replacement gives a table
pub record IsExchange (rows : List Row) (by : Replacement) : Type 0 where
  pub table : IsTable rows
  pub can : CanReplace rows by

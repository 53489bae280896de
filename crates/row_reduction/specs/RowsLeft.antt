-- Rows that are taken from a list one by one.
use Rattle.std.specs.Prelude.{List, Option}
use Rattle.std.specs.List.{filter_map}
use Rattle.cone_definitions.specs.Rows.{Row}

-- the rows that are not taken, in their order
abbrev pub rows_left : List (Option Row) → List Row
rows_left slots = filter_map (λ slot. slot) slots

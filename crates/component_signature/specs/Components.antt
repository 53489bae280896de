-- The components of a table, by a list with the component of each tetrahedron.
use Rattle.std.specs.Prelude.{ℕ, List, [], map, option_map}
use Rattle.std.specs.List.{slice_index_or}
use Rattle.table_definitions.specs.Table.{Row}
use Rattle.table_definitions.specs.Classes.{members}
use Rattle.component_definitions.specs.Parts.{Part, renumbered, rows_of}

-- the row of a tetrahedron, renumbered
abbrev pub row_of : List Row → List ℕ → ℕ → Row
row_of rows numbers t = map (option_map (renumbered numbers)) (slice_index_or rows t [])

-- component c as a table of its own
abbrev pub part_of : List Row → List ℕ → ℕ → Part
part_of rows classes c = record { rows = rows_of rows (members classes c); numbers = members classes c }

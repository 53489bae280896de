-- A slow way to compute the parts of small tables, for the examples.
use Rattle.std.proofs.Common.{ℕ, List, map}
use Rattle.table_definitions.specs.Lists.{below}
use Rattle.table_definitions.specs.Table.{Row}
use Rattle.table_definitions.specs.Classes.{members}
use Rattle.skeleton_definitions.proofs.Evaluators.{components, count_of}
use Rattle.component_definitions.specs.Parts.{Part, rows_of}

abbrev pub parts_by : List Row → List ℕ → List Part
parts_by rows classes = map (λ c. record { rows = rows_of rows (members classes c); numbers = members classes c }) (below (count_of classes))

abbrev pub parts_of : List Row → List Part
parts_of rows = parts_by rows (components rows)

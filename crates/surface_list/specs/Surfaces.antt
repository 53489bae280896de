-- The result of an enumeration of a table's surfaces, with the rows processed in a named order.
use Rattle.std.specs.Prelude.{ℕ, List}
use Rattle.out_of_memory.specs.declared.Failure.{Failure}
use Rattle.out_of_memory.specs.Failures.{IfFault}
use Rattle.table_definitions.specs.Table.{Row}
use Rattle.surface_definitions.specs.declared.Coords.{Coords}
use Rattle.surface_definitions.specs.QuadEquations.{AreEquations}
use Rattle.surface_definitions.specs.TableSurfaces.{table_enumeration}
use Rattle.cone_definitions.specs.Rows.{Row as EquationRow}
use Rattle.cone_definitions.specs.Listings.{ExceedsLimit}
use Rattle.cone_definitions.specs.declared.Order.{Order}
use Rattle.double_description.specs.declared.engine.LargeStep.{LargeStep}
use Rattle.vertex_enumeration.specs.Lists.{IsOnlyListing}

-- the surface list of a table's equations
abbrev pub AreTableSurfaces : ℕ → Coords → List Row → Order → List (List ℕ) → Type 0
AreTableSurfaces limit coords rows order list =
    (equations : List EquationRow) × AreEquations coords rows equations × IsOnlyListing (table_enumeration coords order limit rows equations) list

-- why a table has no list
abbrev pub IsTableRefused : ℕ → Coords → List Row → Order → Failure LargeStep → Type 0
IsTableRefused limit coords rows order failure =
    IfFault failure (λ step. (equations : List EquationRow) × AreEquations coords rows equations × ExceedsLimit (table_enumeration coords order limit rows equations) step.order.items step.kind)

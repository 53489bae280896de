-- The rows of edge classes, one class at a time.
use Rattle.std.specs.Prelude.{◌≡◌, ℕ, List, [], ◌∷◌, ◌++◌}
use Rattle.std.specs.Bool.{MatchBool}
use Rattle.table_definitions.specs.Table.{Row}
use Rattle.table_definitions.specs.Places.{is_boundary_edge}
use Rattle.surface_definitions.specs.QuadEquations.{IsQuadRow}
use Rattle.cone_definitions.specs.Rows.{Row as EquationRow}

-- the row of an internal class is appended; a boundary class has none
abbrev pub IsRowAppended : List Row → List ℕ → ℕ → List EquationRow → List EquationRow → Type 0
IsRowAppended rows classes c before now =
    MatchBool (is_boundary_edge rows classes c) (now ≡ before) ((row : EquationRow) × IsQuadRow rows classes c row × (now ≡ before ++ row ∷ []))

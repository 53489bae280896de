-- A table small enough to take apart by hand.
use Rattle.std.specs.Prelude.{[], ◌∷◌, None, codes}
use Rattle.table_definitions.specs.Table.{Row}
use Rattle.component_definitions.specs.ComponentSignature.{IsComponentSignature}

-- a tetrahedron with no face glued
abbrev pub free_row : Row
free_row = None ∷ None ∷ None ∷ None ∷ []

-- the component signature of two such tetrahedra is baa.baa
abbrev pub TwoFreeTets : Type 0
TwoFreeTets = IsComponentSignature (free_row ∷ free_row ∷ []) (codes "baa.baa")

-- Isomorphic tables that are crushed along corresponding surfaces are isomorphic.
use Rattle.std.specs.Prelude.{◌≡◌, ℕ, List, length}
use Rattle.cone_definitions.specs.Surfaces.{IsAdmissible}
use Rattle.table_definitions.specs.Table.{Row, IsTable}
use Rattle.table_definitions.specs.Relabelling.{Relabelling, AreIsomorphic}
use Rattle.signature_definitions.specs.Labellings.{Relabels}
use Rattle.surface_definitions.specs.Coordinates.{columns, clash_list}
use Rattle.surface_definitions.specs.declared.Coords.TheVariants.{Standard}
use Rattle.surface_definitions.specs.Crushing.{IsCrushed}
use Rattle.surface_relabelling_laws.specs.Vectors.{relabelled_vector}

-- Theorem: the tables that result from crushing a table along an admissible vector, and a relabelled table along the
-- relabelled vector, are isomorphic
abbrev pub CrushedAreIsomorphic : Type 0
CrushedAreIsomorphic =
    (rows new : List Row) (by : Relabelling) (xs : List ℕ) (crushed others : List Row) → IsTable rows → Relabels rows new by → length xs ≡ columns Standard (length rows)
    → IsAdmissible (clash_list Standard (length rows)) xs → IsCrushed rows xs crushed → IsCrushed new (relabelled_vector Standard by xs) others → AreIsomorphic crushed others

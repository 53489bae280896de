-- What there is of parts.
use Rattle.std.specs.Prelude.{◌⊎◌, ℕ, List}
use Rattle.table_definitions.specs.Table.{Row, IsTable}
use Rattle.table_definitions.specs.Places.{IsConnected}
use Rattle.table_definitions.specs.Relabelling.{Relabelling, AreIsomorphic}
use Rattle.signature_definitions.specs.Labellings.{IsLeastRelabelling}
use Rattle.component_definitions.specs.ComponentSignature.{IsComponentSignature}
use Rattle.component_definitions.specs.SameParts.{IsSameParts}

-- each table has a component signature
abbrev pub SomeComponentSignature : Type 0
SomeComponentSignature = (rows : List Row) → IsTable rows → (text : List ℕ) × IsComponentSignature rows text

-- isomorphic connected tables have a relabelling as their answer
abbrev pub SomeLeastRelabelling : Type 0
SomeLeastRelabelling =
    (first second : List Row) → IsTable first → IsTable second → IsConnected first → IsConnected second → AreIsomorphic first second
    → (by : Relabelling) × IsLeastRelabelling first second by

-- isomorphic tables have a relabelling component by component as their answer
abbrev pub SomeSameParts : Type 0
SomeSameParts = (first second : List Row) → IsTable first → IsTable second → AreIsomorphic first second → (by : Relabelling) × IsSameParts first second by

-- two tables can be relabelled to each other or not
abbrev pub RelabelledOrNot : Type 0
RelabelledOrNot = (first second : List Row) → IsTable first → IsTable second → AreIsomorphic first second ⊎ (AreIsomorphic first second → ⊥)

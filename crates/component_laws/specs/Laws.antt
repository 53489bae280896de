-- Laws of parts and of component signatures.
use Rattle.std.specs.Prelude.{◌≡◌, ◌↔◌, ℕ, List}
use Rattle.table_definitions.specs.Table.{Row, IsTable}
use Rattle.table_definitions.specs.Places.{IsConnected}
use Rattle.table_definitions.specs.Relabelling.{Relabelling, AreIsomorphic, Carries}
use Rattle.signature_definitions.specs.Spelling.{IsSignature}
use Rattle.component_definitions.specs.Parts.{Part, IsPart, AreParts}
use Rattle.component_definitions.specs.ComponentSignature.{IsComponentSignature}
use Rattle.component_definitions.specs.SameParts.{IsSameParts}

-- a part of a table is a connected table
abbrev pub PartsAreTables : Type 0
PartsAreTables = (rows : List Row) (part : Part) → IsTable rows → IsPart rows part → IsTable part.rows × IsConnected part.rows

-- a table has a list of parts, and only one
abbrev pub SomeListOfParts : Type 0
SomeListOfParts = (rows : List Row) → IsTable rows → (parts : List Part) × AreParts rows parts

abbrev pub OneListOfParts : Type 0
OneListOfParts = (rows : List Row) (parts others : List Part) → IsTable rows → AreParts rows parts → AreParts rows others → parts ≡ others

-- two tables have equal component signatures if and only if a relabelling carries one to the other
abbrev pub ComponentSignaturesDetermineTables : Type 0
ComponentSignaturesDetermineTables =
    (first second : List Row) (text other : List ℕ) → IsTable first → IsTable second → IsComponentSignature first text → IsComponentSignature second other
    → (text ≡ other) ↔ AreIsomorphic first second

-- so a table has one component signature at most
abbrev pub OneComponentSignature : Type 0
OneComponentSignature = (rows : List Row) (text other : List ℕ) → IsTable rows → IsComponentSignature rows text → IsComponentSignature rows other → text ≡ other

-- the component signature of a connected table is its signature
abbrev pub ConnectedHasSignature : Type 0
ConnectedHasSignature = (rows : List Row) (text : List ℕ) → IsTable rows → IsConnected rows → IsComponentSignature rows text ↔ IsSignature rows text

-- the relabelling found component by component carries the one table to the other, and is unique
abbrev pub SamePartsCarry : Type 0
SamePartsCarry = (first second : List Row) (by : Relabelling) → IsTable first → IsTable second → IsSameParts first second by → Carries by first second

abbrev pub OneSameParts : Type 0
OneSameParts = (first second : List Row) (by other : Relabelling) → IsTable first → IsTable second → IsSameParts first second by → IsSameParts first second other → by ≡ other

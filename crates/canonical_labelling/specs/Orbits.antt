-- Starts of a table whose traversal is not needed: the marked ones, and those to which automorphisms carry them.
use Rattle.std.specs.Prelude.{◌≡◌, ℕ, ◌*◌, Bool, List, length, All}
use Rattle.table_definitions.specs.Table.{Row}
use Rattle.table_definitions.specs.Relabelling.{Relabelling}
use Rattle.signature_definitions.specs.Spelling.{Spells}
use Rattle.signature_laws.specs.Starts.{IsLeastText}
use Rattle.signature_definitions.specs.Labellings.{Start, IsWalked}
use Rattle.signature_automorphism_laws.specs.Automorphisms.{IsAutomorphism, MarkedHaveNoSmallerText}
use Rattle.canonical_labelling.specs.declared.orbits.Orbits.{Orbits}

-- by is the relabelling of the traversal from the start to the table that text spells
abbrev pub IsTextBy : List Row → Start → Relabelling → List ℕ → Type 0
IsTextBy rows start by text = (new : List Row) × IsWalked rows start by new × Spells text new

-- the text and the relabelling are those of a traversal
abbrev pub IsFound : List Row → Relabelling → List ℕ → Type 0
IsFound rows by text = (start : Start) × IsTextBy rows start by text

-- the orbits are of the table: there is a mark for each of its starts, and the relabellings are its automorphisms
pub record AreOrbitsOf (rows : List Row) (o : Orbits) : Type 0 where
  pub size : length o.marked.items ≡ 24 * length rows
  pub automorphisms : All (IsAutomorphism rows) o.automorphisms.items

-- for each text: if no text of a start with a mark is before it, no text of a start with a new mark is
abbrev pub SparesFollow : List Row → List Bool → List Bool → Type 0
SparesFollow rows marks new = (text : List ℕ) → MarkedHaveNoSmallerText rows text marks → MarkedHaveNoSmallerText rows text new

-- the text is the least of the first k starts and of the marked ones
pub record IsSearch (rows : List Row) (k : ℕ) (by : Relabelling) (text : List ℕ) (o : Orbits) : Type 0 where
  pub least : IsLeastText rows k text
  pub found : IsFound rows by text
  pub orbits : AreOrbitsOf rows o
  pub marks : MarkedHaveNoSmallerText rows text o.marked.items

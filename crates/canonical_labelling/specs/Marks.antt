-- Marks of starts of a table, a list of marked starts, and relabellings that carry marked starts to others.
use Rattle.std.specs.Prelude.{◌≡◌, ℕ, ◌*◌, ◌<◌, Bool, true, false, List, length, slice_index, All}
use Rattle.std.specs.List.{slice_index_or}
use Rattle.table_definitions.specs.Table.{Row, IsTable}
use Rattle.table_definitions.specs.Relabelling.{Relabelling}
use Rattle.signature_automorphism_laws.specs.Automorphisms.{IsAutomorphism, MarkedHaveNoSmallerText}

-- the listed starts are marked
abbrev pub AreListed : List ℕ → List Bool → Type 0
AreListed numbers marks = (k : ℕ) → k < length numbers → slice_index_or marks (slice_index numbers k) false ≡ true

-- each relabelling is one of a table with this number of starts
abbrev pub AreOfSize : ℕ → List Relabelling → Type 0
AreOfSize starts relabellings = All (λ (by : Relabelling). 24 * length by.images ≡ starts) relabellings

-- for each table of which the relabellings are automorphisms, and each text: if no text of a start with a mark is
-- before it, no text of a start with a new mark is
abbrev pub MarksFollow : List Relabelling → List Bool → List Bool → Type 0
MarksFollow automorphisms marks new =
    (rows : List Row) (text : List ℕ) → IsTable rows → All (IsAutomorphism rows) automorphisms → 24 * length rows ≡ length marks
    → MarkedHaveNoSmallerText rows text marks → MarkedHaveNoSmallerText rows text new

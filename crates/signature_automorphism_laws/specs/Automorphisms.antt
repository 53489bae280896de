-- Automorphisms of a table, where they carry the starts of its walks, and starts without a text before a given one.
use Rattle.std.specs.Prelude.{◌≡◌, ◌+◌, ◌*◌, ℕ, Bool, true, false, List, [], slice_index}
use Rattle.std.specs.List.{slice_index_or}
use Rattle.table_definitions.specs.Lists.{is_list_before}
use Rattle.table_definitions.specs.Permutation.{inverse, compose, index}
use Rattle.table_definitions.specs.Table.{Row}
use Rattle.table_definitions.specs.Relabelling.{Relabelling}
use Rattle.signature_definitions.specs.Labellings.{Start, Relabels}
use Rattle.signature_laws.specs.Starts.{numbered_start, IsTextFrom}

-- the relabelling carries the table to itself
abbrev pub IsAutomorphism : List Row → Relabelling → Type 0
IsAutomorphism rows by = Relabels rows rows by

-- the start to which the relabelling carries a start
abbrev pub carried_start : Relabelling → Start → Start
carried_start by start = record { tet = slice_index by.images start.tet; perm = compose start.perm (inverse (slice_index_or by.perms start.tet [])) }

-- the number of a start
abbrev pub start_number : Start → ℕ
start_number start = 24 * start.tet + index start.perm

-- the number of the start to which the relabelling carries start i
abbrev pub carried_number : Relabelling → ℕ → ℕ
carried_number by i = start_number (carried_start by (numbered_start i))

-- no text that belongs to the start is before the text
abbrev pub HasNoSmallerText : List Row → List ℕ → Start → Type 0
HasNoSmallerText rows text start = (other : List ℕ) → IsTextFrom rows start other → is_list_before other text ≡ false

-- no text that belongs to a marked start is before the text
abbrev pub MarkedHaveNoSmallerText : List Row → List ℕ → List Bool → Type 0
MarkedHaveNoSmallerText rows text marks = (i : ℕ) → slice_index_or marks i false ≡ true → HasNoSmallerText rows text (numbered_start i)

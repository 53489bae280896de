-- The table that a text spells is the table that is read from it.
use Rattle.std.specs.Prelude.{◌≡◌, ◌↔◌, ℕ, List, Ok}
use Rattle.table_definitions.specs.Table.{Row}
use Rattle.signature_definitions.specs.Spelling.{Spells}
use Rattle.signature_definitions.specs.SignatureText.{signature_table}

-- a table is read from a text if and only if the text spells it
abbrev pub ReadExactlyWhereSpelled : Type 0
ReadExactlyWhereSpelled = (text : List ℕ) (rows : List Row) → (signature_table text ≡ Ok rows) ↔ Spells text rows

-- two tables that one text spells are the same
abbrev pub SpellsOneTable : Type 0
SpellsOneTable = (text : List ℕ) (rows others : List Row) → Spells text rows → Spells text others → rows ≡ others

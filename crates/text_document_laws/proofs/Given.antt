-- What readers return: a value, and what remains after it.
use Rattle.std.proofs.Common.{ℕ, ℤ, List, Option}
use Rattle.text_definitions.specs.Reading.{Reading}
use Rattle.table_definitions.specs.Table.{Gluing, Row as TableRow}
use Rattle.text_document_definitions.specs.Blocks.{Block}

abbrev pub Numbers : Type 0
Numbers = List ℕ × Reading

-- the entry of a face, a table, and tables
abbrev pub Entry : Type 0
Entry = Option Gluing × Reading

abbrev pub Table : Type 0
Table = List TableRow × Reading

abbrev pub Tables : Type 0
Tables = List (List TableRow) × Reading

-- the coefficients of a row
abbrev pub Row : Type 0
Row = List ℤ × Reading

-- a block, and blocks
abbrev pub Whole : Type 0
Whole = Block × Reading

abbrev pub Blocks : Type 0
Blocks = List Block × Reading

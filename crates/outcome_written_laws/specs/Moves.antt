-- Laws of what is written of moves, and of tables that are made.
use Rattle.std.specs.Prelude.{◌≡◌, ℕ, ◌^◌, ◌<◌, List, Ok, All}
use Rattle.std.specs.List.{AllZip, flat_map}
use Rattle.text_definitions.specs.Text.{lines_of}
use Rattle.table_definitions.specs.Table.{Row, IsTable}
use Rattle.move_definitions.specs.Moves.{Move, IsCore, PlaysAll}
use Rattle.move_definitions.specs.MoveText.{move_text}
use Rattle.move_definitions.specs.Grammar.{IsMoveLine}
use Rattle.move_definitions.specs.Certificates.{IsCertificate}
use Rattle.text_document_definitions.specs.Documents.{moves_document}
use Rattle.outcome_definitions.specs.Outcomes.{Outcome}
use Rattle.outcome_definitions.specs.Certificates.{table_then_moves}
use Rattle.outcome_definitions.specs.Makings.{IsMakeAnswer}

-- a move that a line can hold
abbrev pub IsWritable : Move → Type 0
IsWritable m = (m.tet < 2 ^ 32) × IsCore m.core

-- what is written for a list of moves is a line for each
abbrev pub WrittenMovesAreLines : Type 0
WrittenMovesAreLines = (moves : List Move) → All IsWritable moves → AllZip IsMoveLine (lines_of (flat_map move_text moves)) moves

-- what is written for a table and moves that lead from it is read as them
abbrev pub WrittenMovesAreRead : Type 0
WrittenMovesAreRead = (rows : List Row) (moves : List Move) (last : List Row) → IsTable rows → PlaysAll rows moves last → moves_document (table_then_moves rows moves) ≡ Ok (rows, moves)

-- the answer of `make` is read as a table and moves: those that it answered
abbrev pub MadeAreRead : Type 0
MadeAreRead = (seed moves : ℕ) (o : Outcome) (h : IsMakeAnswer seed moves o) → moves_document o.text ≡ Ok (h.table, h.certificate)

-- and these certify the table
abbrev pub MadeAreCertified : Type 0
MadeAreCertified = (seed moves : ℕ) (o : Outcome) (h : IsMakeAnswer seed moves o) → IsCertificate h.table h.certificate

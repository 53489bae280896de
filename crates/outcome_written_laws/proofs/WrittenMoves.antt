-- The text of moves has the lines of the moves, and after the text of a table at which they begin it is read as them.
use Rattle.std.proofs.Common.{◌+◌, ◌<◌, List, [], ◌∷◌, length, inl, arith}
use Rattle.std.specs.List.{AllByRecursion}
use Rattle.std.proofs.lemmas.List.Elements.{recursion_from_All}
use Rattle.text_definitions.specs.Text.{pieces, lines_from}
use Rattle.table_definitions.specs.Table.{Row}
use Rattle.move_definitions.specs.Moves.{Move, PlaysAll}
use Rattle.move_laws.proofs.Legal.{HasNoFault, no_fault}
use Rattle.text_document_laws.proofs.Lawful.{moves_laws}
use Rattle.outcome_definitions.specs.Certificates.{moves_text, table_then_moves}
use Rattle.outcome_written_laws.proofs.WrittenTables.{BeginsWithTable, table_lines}
use Rattle.outcome_written_laws.specs.Moves.{IsWritable, WrittenMovesAreLines, WrittenMovesAreRead}
use Rattle.outcome_written_laws.proofs.MoveLines.{only_moves}

pub written_moves_are_lines_lem : WrittenMovesAreLines
written_moves_are_lines_lem moves h = only_moves 1 moves (recursion_from_All IsWritable moves h)

-- moves that are played can be written
played_writable : (rows : List Row) (moves : List Move) (last : List Row) → PlaysAll rows moves last → AllByRecursion IsWritable moves
played_writable rows [] last led = tt
played_writable rows (m ∷ ms) last (next, plays, rest) =
    let fine : HasNoFault rows m = no_fault rows m plays.moved.legal in
    let low : m.tet < length rows = fine.in_range in
    let limited = plays.table.limited in
    ((omega arith, plays.moved.core), played_writable next ms last rest)

pub written_moves_read : WrittenMovesAreRead
unfolding moves_text
written_moves_read rows moves last table led =
    let b : BeginsWithTable rows table (table_then_moves rows moves) (moves_text moves) = table_lines rows table (moves_text moves) in
    (moves_laws.reads (table_then_moves rows moves) (rows, moves)).1 (
      b.lines,
      lines_from (2 + length rows) (pieces (moves_text moves)),
      b.split,
      inl b.are,
      only_moves (2 + length rows) moves (played_writable rows moves last led),
    )

-- An input has at most one more move than bytes.
use Rattle.std.proofs.Common.{◌≡◌, ℕ, ◌+◌, ◌≤◌, List, ◌++◌, length, ap, arith, Ok}
use Rattle.std.proofs.Math.ListN.{length-append}
use Rattle.std.proofs.lemmas.Slice.Zip.{AllZip-long}
use Rattle.text_definitions.specs.Text.{Line, lines_of}
use Rattle.text_definitions.proofs.LineCount.{few_lines}
use Rattle.table_definitions.specs.Table.{Row}
use Rattle.move_definitions.specs.Moves.{Move}
use Rattle.move_definitions.specs.Grammar.{IsMoveLine}
use Rattle.text_document_definitions.specs.Documents.{moves_document}
use Rattle.text_document_laws.proofs.Lawful.{moves_laws}

pub few_moves : (bytes : List ℕ) (rows : List Row) (moves : List Move) → moves_document bytes ≡ Ok (rows, moves) → length moves ≤ length bytes + 1
few_moves bytes rows moves e =
    let read = (moves_laws.reads bytes (rows, moves)).0 e in
    let all : length (lines_of bytes) ≡ length (read.0 ++ read.1) = ap (λ (ls : List Line). length ls) read.2 in
    omega (arith, all, length-append read.0 read.1, AllZip-long IsMoveLine read.1 moves read.4, few_lines bytes)

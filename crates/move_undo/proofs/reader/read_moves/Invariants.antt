-- The moves so far, followed by those of the remaining lines, are those of the input.
use Rattle.std.proofs.Common.{◌≡◌, length}
use Rattle.move_definitions.specs.MoveText.{move_at}
use Rattle.text_document_definitions.specs.Documents.{each_line_from}
use Rattle.text_document_definitions.proofs.EachLine.{with_fronts}
use Rattle.move_undo.proofs.reader.read_moves.Given as goal

abbrev pub invariant-loop-lexer : goal.invariant-loop-lexer
invariant-loop-lexer l = with_fronts l.moves.items (each_line_from move_at l.lexer.later l.lexer) ≡ each_line_from move_at l.fn.lexer.later l.fn.lexer

abbrev pub decreases-loop-lexer : goal.decreases-loop-lexer
decreases-loop-lexer l = length l.lexer.later

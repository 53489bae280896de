-- The vectors so far, followed by those that are left, are those of the input.
use Rattle.std.proofs.Common.{◌≡◌, length}
use Rattle.cone_text_definitions.specs.VectorText.{vector_at}
use Rattle.text_document_definitions.specs.Documents.{each_line_from}
use Rattle.text_document_definitions.proofs.EachLine.{with_fronts}
use Rattle.command_answers.specs.Reads.{entries_of}
use Rattle.command_answers.proofs.vectors.read_vectors.Given as goal

abbrev pub invariant-loop-alloc : goal.invariant-loop-alloc
invariant-loop-alloc l = with_fronts (entries_of l.vectors) (each_line_from vector_at l.lexer.later l.lexer) ≡ each_line_from vector_at l.fn.lexer.later l.fn.lexer

abbrev pub decreases-loop-alloc : goal.decreases-loop-alloc
decreases-loop-alloc l = length l.lexer.later

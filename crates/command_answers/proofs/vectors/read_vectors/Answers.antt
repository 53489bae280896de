-- Each pass of the loop reads one line.
use Rattle.std.proofs.Common.{sym, ◌∙◌}
use Rattle.std.proofs.lemmas.Result.{err_from_is_err_and}
use Rattle.cone_text_definitions.specs.VectorText.{vector_at}
use Rattle.surface_definitions.proofs.VectorLaws.{vector_read}
use Rattle.table_definitions.proofs.TableReadingLaws.{lexed_ok}
use Rattle.table_definitions.proofs.TableFoundLaws.{lexed_with}
use Rattle.command_answers.specs.Reads.{entries_of}
use Rattle.text_document_definitions.proofs.EachLine.{line_taken, line_fails, lines_ended, lines_fewer}
use Rattle.command_answers.proofs.VectorLines.{entries_push}
use Rattle.command_answers.proofs.vectors.read_vectors.Goals as goal

pub loop-alloc-smaller : goal.loop-alloc-smaller
loop-alloc-smaller c =
    lines_fewer vector_at c.loop-alloc.lexer c.next_line.new.self (c.in_ok-vector.vector.items, c.read_vector.new.lexer) c.loop-alloc-test.ensures.found
    (vector_read c.next_line.new.self c.in_ok-vector.vector.items c.read_vector.new.lexer (lexed_ok (vector_at c.next_line.new.self) (c.in_ok-vector.vector.items, c.read_vector.new.lexer) c.in_ok-vector.ensures)).later

pub loop-alloc-preserved : goal.loop-alloc-preserved
loop-alloc-preserved c =
    entries_push c.loop-alloc.vectors.items c.push.new.self.items c.in_ok-vector.vector _ _ c.in_ok-push.ensures.items
    (line_taken vector_at (entries_of c.loop-alloc.vectors) c.loop-alloc.lexer c.next_line.new.self (c.in_ok-vector.vector.items, c.read_vector.new.lexer) c.loop-alloc-test.ensures.found
    (lexed_ok (vector_at c.next_line.new.self) (c.in_ok-vector.vector.items, c.read_vector.new.lexer) c.in_ok-vector.ensures) (vector_read c.next_line.new.self c.in_ok-vector.vector.items c.read_vector.new.lexer (lexed_ok (vector_at c.next_line.new.self) (c.in_ok-vector.vector.items, c.read_vector.new.lexer) c.in_ok-vector.ensures)).later ∙ c.loop-alloc.invariant)

pub returns : goal.returns
returns c = lexed_with _ _ (sym c.loop-alloc.invariant ∙ rw c.loop-alloc-test.ensures.none.1 (lines_ended vector_at (entries_of c.loop-alloc.vectors) c.loop-alloc.lexer c.loop-alloc-test.ensures.none.0))

pub returns-in_err-vector : goal.returns-in_err-vector
returns-in_err-vector c = let p = err_from_is_err_and c.from_residual.result c.from_residual.ensures.1 in rw (p.1, p.2)
    (line_fails vector_at (entries_of c.loop-alloc.vectors) c.loop-alloc.lexer c.next_line.new.self _ _ c.loop-alloc-test.ensures.found c.in_err-vector.ensures c.loop-alloc.invariant)

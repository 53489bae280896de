-- Each pass reads one line.
use Rattle.std.proofs.Common.{List, sym, ap, ◌∙◌}
use Rattle.std.proofs.lemmas.Result.{err_from_is_err_and}
use Rattle.move_definitions.specs.Moves.{Move}
use Rattle.move_definitions.specs.MoveText.{move_at}
use Rattle.text_document_definitions.specs.Documents.{each_line_from}
use Rattle.move_definitions.proofs.MoveReadingLaws.{move_read}
use Rattle.table_definitions.proofs.TableFoundLaws.{lexed_with}
use Rattle.text_document_definitions.proofs.EachLine.{with_fronts, fault_lexed, line_taken, line_faulty, lines_ended, lines_fewer}
use Rattle.move_undo.proofs.reader.read_moves.Goals as goal

pub loop-lexer-smaller : goal.loop-lexer-smaller
loop-lexer-smaller c =
    lines_fewer move_at c.loop-lexer.lexer c.next_line.new.self (c.in_ok-m.m, c.read_move.new.lexer) c.loop-lexer-test.ensures.found
    (move_read c.next_line.new.self c.in_ok-m.m c.read_move.new.lexer c.in_ok-m.ensures).later

pub loop-lexer-preserved : goal.loop-lexer-preserved
loop-lexer-preserved c =
    ap (λ (ms : List Move). with_fronts ms (each_line_from move_at c.read_move.new.lexer.later c.read_move.new.lexer)) c.in_ok-push.ensures.items
    ∙ line_taken move_at c.loop-lexer.moves.items c.loop-lexer.lexer c.next_line.new.self (c.in_ok-m.m, c.read_move.new.lexer) c.loop-lexer-test.ensures.found
    c.in_ok-m.ensures (move_read c.next_line.new.self c.in_ok-m.m c.read_move.new.lexer c.in_ok-m.ensures).later ∙ c.loop-lexer.invariant

pub returns : goal.returns
returns c = lexed_with _ _ (sym c.loop-lexer.invariant ∙ rw c.loop-lexer-test.ensures.none.1 (lines_ended move_at c.loop-lexer.moves.items c.loop-lexer.lexer c.loop-lexer-test.ensures.none.0))

pub returns-in_err-m : goal.returns-in_err-m
returns-in_err-m c = let p = err_from_is_err_and c.from_residual.result c.from_residual.ensures.1 in rw (p.1, p.2) (λ other.
    fault_lexed _ _ (sym c.loop-lexer.invariant ∙ line_faulty move_at c.loop-lexer.moves.items c.loop-lexer.lexer c.next_line.new.self _ c.loop-lexer-test.ensures.found c.in_err-m.ensures))

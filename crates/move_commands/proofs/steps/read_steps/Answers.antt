-- Each pass of the loop reads one line.
use Rattle.std.proofs.Common.{sym, ◌∙◌}
use Rattle.std.proofs.lemmas.Result.{err_from_is_err_and}
use Rattle.move_definitions.specs.MoveText.{step_at}
use Rattle.move_definitions.proofs.MoveReadingLaws.{step_read}
use Rattle.move_undo.specs.Steps.{step_value}
use Rattle.table_definitions.proofs.TableFoundLaws.{lexed_with}
use Rattle.move_commands.specs.Scripts.{steps_of}
use Rattle.text_document_definitions.proofs.EachLine.{fault_lexed, line_taken, line_faulty, lines_ended, lines_fewer}
use Rattle.move_commands.proofs.ScriptLines.{steps_push}
use Rattle.move_commands.proofs.steps.read_steps.Goals as goal

pub loop-lexer-smaller : goal.loop-lexer-smaller
loop-lexer-smaller c =
    lines_fewer step_at c.loop-lexer.lexer c.next_line.new.self (step_value c.in_ok-step.step, c.read_step.new.lexer) c.loop-lexer-test.ensures.found
    (step_read c.next_line.new.self (step_value c.in_ok-step.step) c.read_step.new.lexer c.in_ok-step.ensures).later

pub loop-lexer-preserved : goal.loop-lexer-preserved
loop-lexer-preserved c =
    steps_push c.loop-lexer.steps.items c.push.new.self.items c.in_ok-step.step _ _ c.in_ok-push.ensures.items
    (line_taken step_at (steps_of c.loop-lexer.steps) c.loop-lexer.lexer c.next_line.new.self (step_value c.in_ok-step.step, c.read_step.new.lexer) c.loop-lexer-test.ensures.found
    c.in_ok-step.ensures (step_read c.next_line.new.self (step_value c.in_ok-step.step) c.read_step.new.lexer c.in_ok-step.ensures).later ∙ c.loop-lexer.invariant)

pub returns : goal.returns
returns c = lexed_with _ _ (sym c.loop-lexer.invariant ∙ rw c.loop-lexer-test.ensures.none.1 (lines_ended step_at (steps_of c.loop-lexer.steps) c.loop-lexer.lexer c.loop-lexer-test.ensures.none.0))

pub returns-in_err-step : goal.returns-in_err-step
returns-in_err-step c = let p = err_from_is_err_and c.from_residual.result c.from_residual.ensures.1 in rw (p.1, p.2) (λ other.
    fault_lexed _ _ (sym c.loop-lexer.invariant ∙ line_faulty step_at (steps_of c.loop-lexer.steps) c.loop-lexer.lexer c.next_line.new.self _ c.loop-lexer-test.ensures.found c.in_err-step.ensures))

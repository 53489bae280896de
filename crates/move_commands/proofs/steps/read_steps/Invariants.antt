-- The steps so far, followed by those that are left, are those of the input.
use Rattle.std.proofs.Common.{◌≡◌, length}
use Rattle.move_definitions.specs.MoveText.{step_at}
use Rattle.text_document_definitions.specs.Documents.{each_line_from}
use Rattle.text_document_definitions.proofs.EachLine.{with_fronts}
use Rattle.move_commands.specs.Scripts.{steps_of}
use Rattle.move_commands.proofs.steps.read_steps.Given as goal

abbrev pub invariant-loop-lexer : goal.invariant-loop-lexer
invariant-loop-lexer l = with_fronts (steps_of l.steps) (each_line_from step_at l.lexer.later l.lexer) ≡ each_line_from step_at l.fn.lexer.later l.fn.lexer

abbrev pub decreases-loop-lexer : goal.decreases-loop-lexer
decreases-loop-lexer l = length l.lexer.later

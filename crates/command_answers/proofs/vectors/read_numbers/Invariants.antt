-- The numbers so far, followed by those that are left, are those of the line.
use Rattle.std.proofs.Common.{◌≡◌, length}
use Rattle.text_definitions.specs.Reading.{numbers_at}
use Rattle.text_definitions.proofs.Readers.{with_front}
use Rattle.text_definitions.specs.Written.{limit}
use Rattle.command_answers.proofs.vectors.read_numbers.Given as goal

abbrev pub invariant-loop-numbers : goal.invariant-loop-numbers
invariant-loop-numbers l = with_front l.numbers.items (numbers_at limit l.lexer) ≡ numbers_at limit l.fn.lexer

abbrev pub decreases-loop-numbers : goal.decreases-loop-numbers
decreases-loop-numbers l = length l.lexer.current.tokens

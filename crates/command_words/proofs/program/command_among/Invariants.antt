-- The remaining commands decide.
use Rattle.std.proofs.Common.{◌≡◌, drop, Option}
use Rattle.command_definitions.specs.Commands.{Command}
use Rattle.command_words.specs.Apps.{command_among}
use Rattle.command_words.proofs.program.command_among.Given as goal

abbrev pub invariant-loop-word : goal.invariant-loop-word
invariant-loop-word l = ◌≡◌ {A = Option Command} (command_among l.name (drop l.word-index l.rows)) (command_among l.name l.rows)

-- The letters so far.
use Rattle.std.proofs.Common.{◌≡◌, ◌++◌, take}
use Rattle.std.specs.List.{flat_map}
use Rattle.outcome_definitions.specs.Presented.{letter_text}
use Rattle.topology_commands.proofs.presentation.append_letters.Given as goal

abbrev pub invariant-loop-letter : goal.invariant-loop-letter
invariant-loop-letter l = l.text.items ≡ l.fn.text.items ++ flat_map letter_text (take l.letter-index l.letters)

-- The lines so far.
use Rattle.std.proofs.Common.{◌≡◌, ◌++◌}
use Rattle.outcome_definitions.specs.Information.{classes_text}
use Rattle.outcome_definitions.specs.Presented.{generator_text}
use Rattle.topology_commands.proofs.presentation.append_generators.Given as goal

abbrev pub invariant-loop-before : goal.invariant-loop-before
invariant-loop-before l = l.text.items ≡ l.fn.text.items ++ classes_text (generator_text l.group.presentation) l.before

-- The lines so far.
use Rattle.std.proofs.Common.{◌≡◌, ◌++◌}
use Rattle.outcome_definitions.specs.Information.{classes_text}
use Rattle.outcome_definitions.specs.Presented.{relator_text}
use Rattle.topology_commands.proofs.presentation.append_relators.Given as goal

abbrev pub invariant-loop-relator : goal.invariant-loop-relator
invariant-loop-relator l = l.text.items ≡ l.fn.text.items ++ classes_text (relator_text l.group.presentation) l.relator

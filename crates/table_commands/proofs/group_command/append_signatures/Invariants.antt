-- The lines so far.
use Rattle.std.proofs.Common.{◌≡◌, ◌++◌}
use Rattle.signature_definitions.specs.Census.{signature_in}
use Rattle.outcome_definitions.specs.Information.{classes_text}
use Rattle.outcome_definitions.specs.Canonical.{class_signature_line}
use Rattle.table_commands.proofs.group_command.append_signatures.Given as goal

abbrev pub invariant-loop-class : goal.invariant-loop-class
invariant-loop-class l = l.text.items ≡ l.fn.text.items ++ classes_text (λ c. class_signature_line c (signature_in l.census c)) l.class

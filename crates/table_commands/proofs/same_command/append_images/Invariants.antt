-- The lines so far.
use Rattle.std.proofs.Common.{◌≡◌, ◌++◌}
use Rattle.table_definitions.specs.Relabelling.{relabelled_place}
use Rattle.outcome_definitions.specs.Information.{classes_text}
use Rattle.outcome_definitions.specs.Canonical.{image_line}
use Rattle.table_commands.proofs.same_command.append_images.Given as goal

abbrev pub invariant-loop-tet : goal.invariant-loop-tet
invariant-loop-tet l = l.text.items ≡ l.fn.text.items ++ classes_text (λ tet. image_line tet (relabelled_place l.by tet)) l.tet

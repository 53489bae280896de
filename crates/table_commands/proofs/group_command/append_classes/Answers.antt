-- One more line.
use Rattle.std.proofs.Common.{refl}
use Rattle.std.specs.Prelude.{slice_index}
use Rattle.outcome_definitions.specs.Canonical.{class_line}
use Rattle.outcome_definitions.proofs.ClassTexts.{lines_begin, lines_more}
use Rattle.table_commands.proofs.group_command.append_classes.Goals as goal

pub loop-table-init : goal.loop-table-init
loop-table-init c = lines_begin _ _

pub loop-table-preserved : goal.loop-table-preserved
loop-table-preserved c =
    lines_more (λ k. class_line k (slice_index c.args.classes.now k)) c.loop-table.table c.args.text.now.items c.loop-table.text.items c.append_class.new.text.items
    _ c.in_ok-append_class.ensures c.loop-table.invariant refl

-- One more line.
use Rattle.table_definitions.specs.Relabelling.{relabelled_place}
use Rattle.outcome_definitions.specs.Canonical.{image_line}
use Rattle.outcome_definitions.proofs.ClassTexts.{lines_begin, lines_more}
use Rattle.table_commands.proofs.LabelLines.{image_same}
use Rattle.table_commands.proofs.same_command.append_images.Goals as goal

pub loop-tet-init : goal.loop-tet-init
loop-tet-init c = lines_begin _ _

pub loop-tet-preserved : goal.loop-tet-preserved
loop-tet-preserved c =
    lines_more (λ tet. image_line tet (relabelled_place c.args.by.now tet)) c.loop-tet.tet c.args.text.now.items c.loop-tet.text.items c.append_image.new.text.items
    _ c.in_ok-append_image.ensures c.loop-tet.invariant (image_same c.args.by.now c.loop-tet.tet c.image.result c.perm.result c.image.ensures.value c.perm.ensures)

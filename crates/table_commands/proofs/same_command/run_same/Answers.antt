-- Each tetrahedron has an image.
use Rattle.std.proofs.Common.{◌∙◌}
use Rattle.table_commands.proofs.LabelLines.{one_image_each}
use Rattle.table_commands.proofs.same_command.run_same.Goals as goal

pub relabelling_outcome-requires : goal.relabelling_outcome-requires
relabelling_outcome-requires c =
    let found = rw c.in-Ok-Some.field-0-is at c.in-Ok-Some.ensures.found in
    c.len.ensures.value ∙ one_image_each c.args.first.now c.args.second.now c.in-Ok-Some.by found

-- One more line.
use Rattle.std.proofs.Common.{ap₂}
use Rattle.outcome_definitions.specs.Presented.{relator_line, relator_text}
use Rattle.outcome_definitions.proofs.ClassTexts.{lines_begin, lines_more}
use Rattle.topology_commands.proofs.presentation.append_relators.Goals as goal

pub loop-relator-init : goal.loop-relator-init
loop-relator-init c = lines_begin _ _

pub loop-relator-preserved : goal.loop-relator-preserved
loop-relator-preserved c =
    lines_more (relator_text c.args.group.now.presentation) c.loop-relator.relator c.args.text.now.items c.loop-relator.text.items c.append_relator.new.text.items
    (relator_line c.edge_of.result c.relator.result.now) c.in_ok-append_relator.ensures c.loop-relator.invariant (ap₂ relator_line c.edge_of.ensures c.relator.ensures)

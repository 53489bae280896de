-- One more line.
use Rattle.std.proofs.Common.{ap}
use Rattle.signature_definitions.specs.Census.{signature_in}
use Rattle.outcome_definitions.specs.Canonical.{class_signature_line}
use Rattle.outcome_definitions.proofs.ClassTexts.{lines_begin, lines_more}
use Rattle.table_commands.proofs.group_command.append_signatures.Goals as goal

pub loop-class-init : goal.loop-class-init
loop-class-init c = lines_begin _ _

pub loop-class-preserved : goal.loop-class-preserved
loop-class-preserved c =
    lines_more (λ k. class_signature_line k (signature_in c.args.census.now k)) c.loop-class.class c.args.text.now.items c.loop-class.text.items c.append_signature.new.text.items
    _ c.in_ok-append_signature.ensures c.loop-class.invariant (ap (class_signature_line c.loop-class.class) c.signature_of.ensures)

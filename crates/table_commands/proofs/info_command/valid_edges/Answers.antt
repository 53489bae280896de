-- One more class.
use Rattle.table_commands.proofs.ClassLines.{valid_more}
use Rattle.table_commands.proofs.info_command.valid_edges.Goals as goal

pub loop-class-preserved : goal.loop-class-preserved
loop-class-preserved c =
    valid_more c.args.skeleton.now c.loop-class.class c.loop-class.valid.items c.push.new.self.items c.is_valid_edge.result c.in_ok-push.ensures.items c.is_valid_edge.ensures.valid c.loop-class.invariant

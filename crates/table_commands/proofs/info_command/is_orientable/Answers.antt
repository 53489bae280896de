-- There are signs if and only if some are returned.
use Rattle.table_commands.proofs.ClassLines.{signs_tell}
use Rattle.table_commands.proofs.info_command.is_orientable.Goals as goal

pub returns : goal.returns
returns c = signs_tell c.args.skeleton.now.rows c.orientation.result _ c.is_some.ensures c.orientation.ensures

-- The table of the skeleton is the given one.
use Rattle.std.proofs.Common.{List, subst}
use Rattle.std.specs.Prelude.{IfOk}
use Rattle.table_definitions.specs.Table.{Row}
use Rattle.outcome_definitions.specs.Information.{IsInformationAnswer}
use Rattle.table_commands.proofs.info_command.run_info.Goals as goal

pub returns : goal.returns
returns c = subst (λ (rows : List Row). IfOk c.run_info_on_skeleton.result (IsInformationAnswer rows)) c.in_ok-skeleton.ensures.rows c.run_info_on_skeleton.ensures

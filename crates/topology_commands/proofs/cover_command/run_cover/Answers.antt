-- The table of the skeleton is the given one.
use Rattle.std.proofs.Common.{List, subst}
use Rattle.std.specs.Prelude.{IfOk}
use Rattle.table_definitions.specs.Table.{Row}
use Rattle.outcome_definitions.specs.Covers.{IsCoverAnswer}
use Rattle.topology_commands.proofs.cover_command.run_cover.Goals as goal

pub returns : goal.returns
returns c = subst (λ (rows : List Row). IfOk c.run_cover_on_skeleton.result (IsCoverAnswer rows)) c.in_ok-skeleton.ensures.rows c.run_cover_on_skeleton.ensures

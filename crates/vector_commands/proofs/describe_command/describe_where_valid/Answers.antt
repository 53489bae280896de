-- The equations are those of the table.
use Rattle.vector_commands.proofs.DiscEquations.{rows_of}
use Rattle.vector_commands.proofs.describe_command.describe_where_valid.Goals as goal

pub invariant_of-matching : goal.invariant_of-matching
invariant_of-matching c = record {
  table = c.requires.table;
  equations = rows_of c.args.coords.system c.args.skeleton.now.rows c.in_ok-system.system.rows c.args.coords.triangles c.in_ok-system.ensures.equations;
  width = c.in_ok-system.ensures.columns;
}

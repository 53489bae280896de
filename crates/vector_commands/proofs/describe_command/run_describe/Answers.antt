-- The least invalid edge class is reported, or the vectors are described.
use Rattle.std.proofs.lemmas.Result.{IfOk-weaker}
use Rattle.command_answers.specs.Reads.{all_entries}
use Rattle.vector_commands.proofs.DescribeAnswers.{valid_told, invalid_told}
use Rattle.vector_commands.proofs.describe_command.run_describe.Goals as goal

pub returns-in-Some : goal.returns-in-Some
returns-in-Some c = IfOk-weaker c.invalid_edge_outcome.result _ _
    (λ o e. invalid_told c.in_ok-skeleton.skeleton c.args.coords.system c.args.table (all_entries c.args.vectors.now) o
    c.in_ok-skeleton.ensures.rows c.in_ok-skeleton.ensures.skeleton c.in-Some.class c.in-Some.ensures e)
    c.invalid_edge_outcome.ensures

pub returns : goal.returns
returns c = IfOk-weaker c.describe_where_valid.result _ _
    (λ o d. valid_told c.in_ok-skeleton.skeleton c.args.coords.system c.args.table (all_entries c.args.vectors.now) o
    c.in_ok-skeleton.ensures.rows c.in_ok-skeleton.ensures.skeleton c.in-None.ensures d)
    c.describe_where_valid.ensures

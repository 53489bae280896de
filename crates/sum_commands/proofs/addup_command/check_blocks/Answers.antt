-- Each block up to the first that is refused is accepted.
use Rattle.std.proofs.Common.{Ok}
use Rattle.outcome_definitions.specs.Sums.{IsAddedUp}
use Rattle.sum_commands.specs.Blocks.{block_of}
use Rattle.sum_commands.proofs.Walks.{first_stopped, one_more, all_seen}
use Rattle.sum_commands.proofs.addup_command.check_blocks.Goals as goal

pub returns-in-Err : goal.returns-in-Err
returns-in-Err c =
    first_stopped block_of (IsAddedUp c.args.equations.coords c.args.equations.table.now c.args.equations.system.now.rows) c.args.blocks.now c.loop-number.number c.index-blocks-number.result c.in-Err.fault
    c.loop-number-test.true c.index-blocks-number.is c.loop-number.invariant c.in-Err.ensures

pub loop-number-preserved : goal.loop-number-preserved
loop-number-preserved c =
    one_more block_of (λ block. IsAddedUp c.args.equations.coords c.args.equations.table.now c.args.equations.system.now.rows block (Ok tt)) c.args.blocks.now c.loop-number.number c.index-blocks-number.result
    c.loop-number-test.true c.index-blocks-number.is c.loop-number.invariant c.in-Ok.ensures

pub returns : goal.returns
returns c =
    all_seen block_of (λ block. IsAddedUp c.args.equations.coords c.args.equations.table.now c.args.equations.system.now.rows block (Ok tt)) c.args.blocks.now c.loop-number.number c.loop-number-test.false c.loop-number.invariant

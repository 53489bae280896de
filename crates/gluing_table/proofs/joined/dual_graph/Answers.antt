use Rattle.std.proofs.Common.{ap, ◌∙◌, take_all}
use Rattle.gluing_table.specs.Neighbours.{all_neighbours}
use Rattle.gluing_table.proofs.Chains.{behind_none, behind_more}
use Rattle.gluing_table.proofs.joined.dual_graph.Goals as goal

pub loop-row-init : goal.loop-row-init
loop-row-init c = behind_none _ c.in_ok-all.ensures.items

pub loop-row-preserved : goal.loop-row-preserved
loop-row-preserved c =
    behind_more c.args.rows.now c.loop-row.row-index c.row-item.result c.loop-row.all.items _ c.tets_across.result c.loop-row-test.true c.row-item.is c.loop-row.invariant c.tets_across.ensures
    c.in_ok-push.ensures.items

pub returns : goal.returns
returns c = c.loop-row.invariant ∙ ap all_neighbours (take_all c.loop-row.row-index c.args.rows.now c.loop-row-test.false)

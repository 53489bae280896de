use Rattle.std.proofs.Common.{◌≡◌, None, below_more, ap, get_or, ◌∙◌}
use Rattle.table_definitions.specs.Replaceable.{row_back}
use Rattle.gluing_table.proofs.FirstBack.{row_any, still_nothing, first_row, no_row_gives}
use Rattle.gluing_table.proofs.replacing.back_to_fresh.Goals as goal

pub loop-row-preserved : goal.loop-row-preserved
loop-row-preserved c k d =
    below_more (λ k. row_back c.args.target (get_or c.args.fresh.now k d) ≡ None) c.loop-row.row-index (λ k l. c.loop-row.invariant k d l)
    (ap (row_back c.args.target) (row_any c.args.fresh.now c.loop-row.row-index c.row-item.result d c.loop-row-test.true c.row-item.is)
    ∙ still_nothing c.back_to_row-back.result _ c.back_to_row-back.ensures c.if-is_some.ensures)
    k

pub returns-then-is_some : goal.returns-then-is_some
returns-then-is_some c =
    first_row (row_back c.args.target) c.args.fresh.now c.loop-row.row-index c.row-item.result c.back_to_row-back.result c.loop-row-test.true c.row-item.is c.loop-row.invariant
    c.back_to_row-back.ensures c.if-is_some.ensures

pub returns : goal.returns
returns c = no_row_gives (row_back c.args.target) c.args.fresh.now c.loop-row.row-index c.loop-row-test.false c.loop-row.invariant

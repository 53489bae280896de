use Rattle.std.proofs.Common.{◌≡◌, [], below_more, get_or, ◌∙◌}
use Rattle.table_definitions.specs.Replaceable.{numbers_of}
use Rattle.gluing_table.proofs.Opened.{number_at}
use Rattle.gluing_table.proofs.FirstBack.{fresh_found, fresh_missing}
use Rattle.gluing_table.proofs.replacing.fresh_row.Goals as goal

pub loop-row-preserved : goal.loop-row-preserved
loop-row-preserved c =
    below_more (λ k. get_or (numbers_of c.args.fresh.now) k 0 ≡ c.args.number → ⊥) c.loop-row.row-index c.loop-row.invariant
    (λ e. c.if-row-number.false (number_at c.args.fresh.now c.loop-row.row-index c.row-item.result c.loop-row-test.true c.row-item.is ∙ e))

pub returns-then-row-number : goal.returns-then-row-number
returns-then-row-number c =
    fresh_found c.args.fresh.now [] c.loop-row.row-index c.row-item.result _ c.args.number c.loop-row-test.true c.row-item.is c.if-row-number.true c.copy_row.ensures c.loop-row.invariant

pub returns : goal.returns
returns c = fresh_missing c.args.fresh.now [] c.loop-row.row-index c.args.number c.loop-row-test.false c.loop-row.invariant

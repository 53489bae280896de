use Rattle.std.proofs.Common.{◌^◌, ◌*◌, refl, rules}
use Rattle.cone_bound_laws.specs.Caps.{caps_product}
use Rattle.number_bounds.specs.Columns.{cap_by}
use Rattle.number_bounds.proofs.ColumnCaps.{product_more}
use Rattle.number_bounds.proofs.Past.{if_none, product_past, reached}
use Rattle.number_bounds.proofs.columns.product_of_squares.Goals as goal

pub loop-square-init : goal.loop-square-init
unfolding caps_product
loop-square-init c = refl

pub loop-square-preserved : goal.loop-square-preserved
loop-square-preserved c =
    product_more (cap_by c.args.squares.now) c.loop-square.square-index c.loop-square.product c.in_ok-product.product c.from.result c.loop-square.invariant
    (search rules) (search rules)

pub returns-in_err-product-clause-none : goal.returns-in_err-product-clause-none
returns-in_err-product-clause-none c = if_none c.from_residual.result
    (product_past c.args.squares.now c.loop-square.square-index c.loop-square.product c.from.result (2 ^ 128) c.loop-square-test.true c.loop-square.invariant (search rules)
    (reached (c.loop-square.product * c.from.result) (2 ^ 128) c.in_err-product.ensures))

use Rattle.std.proofs.Common.{◌^◌, ◌*◌, refl, rules, arith, ◌∙◌}
use Rattle.cone_bound_laws.specs.Caps.{caps_product}
use Rattle.number_bounds.specs.Triples.{triple_cap}
use Rattle.number_bounds.proofs.ColumnCaps.{product_more}
use Rattle.number_bounds.proofs.Past.{if_none, reached}
use Rattle.number_bounds.proofs.TripleCaps.{product_past}
use Rattle.number_bounds.proofs.triples.product_of_triples.Goals as goal

pub loop-group-init : goal.loop-group-init
unfolding caps_product
loop-group-init c = refl

pub loop-group-preserved : goal.loop-group-preserved
loop-group-preserved c =
    product_more (triple_cap c.args.squares.now) c.loop-group.group c.loop-group.product c.in_ok-product.product c.from.result c.loop-group.invariant
    (c.from.ensures ∙ c.cap_of.ensures) (search rules)

pub returns-in_err-product-clause-none : goal.returns-in_err-product-clause-none
returns-in_err-product-clause-none c = if_none c.from_residual.result
    (product_past c.args.squares.now c.loop-group.group c.loop-group.product c.from.result (2 ^ 128) (omega (arith, c.loop-group-test.true)) c.loop-group.invariant (c.from.ensures ∙ c.cap_of.ensures)
    (reached (c.loop-group.product * c.from.result) (2 ^ 128) c.in_err-product.ensures))

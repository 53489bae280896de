-- Both results are in range, so they are the product and the sum.
use Rattle.std.proofs.Common.{rules, w32, FitsSigned}
use Rattle.std.proofs.lemmas.Int.{to_z-of_z}
use Rattle.row_reduction.proofs.MergeLemmas.{checked_sum}
use Rattle.row_reduction.proofs.PassingLemmas.{product_passes, none_passes}
use Rattle.row_reduction.proofs.merge.sum_with_product.Goals as goal

pub returns-clause-sum : goal.returns-clause-sum
returns-clause-sum c =
    let n = c.ranges.number in
    let p = c.ranges.factor in
    let q = c.ranges.other in
    let product = simp to_z-of_z at c.in_ok-product.ensures in
    let f : FitsSigned w32 c.in_ok-product.product = search rules in
    checked_sum _ c.args.number c.args.factor c.args.other c.in_ok-product.product c.checked_add.result product.1 (simp to_z-of_z at c.checked_add.ensures)

pub returns-clause-passed : goal.returns-clause-passed
returns-clause-passed c none small =
    let n = c.ranges.number in
    let p = c.ranges.factor in
    let q = c.ranges.other in
    let product = simp to_z-of_z at c.in_ok-product.ensures in
    let f : FitsSigned w32 c.in_ok-product.product = search rules in
    none_passes c.args.number c.args.factor c.args.other c.in_ok-product.product c.checked_add.result product.1 (simp to_z-of_z at c.checked_add.ensures) none

pub returns-in_err-product-clause-passed : goal.returns-in_err-product-clause-passed
returns-in_err-product-clause-passed c none small =
    let n = c.ranges.number in
    let p = c.ranges.factor in
    let q = c.ranges.other in
    product_passes c.args.number c.args.factor c.args.other (simp to_z-of_z at c.in_err-product.ensures) small

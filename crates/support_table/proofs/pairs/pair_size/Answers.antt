use Rattle.std.proofs.Common.{refl, arith}
use Rattle.support_table.proofs.SizeLemmas.{columns_within}
use Rattle.support_table.proofs.pairs.pair_size.Goals as goal

pub overflow_add-result : goal.overflow_add-result
overflow_add-result c =
    let outer = c.args.outer.now in
    let is = c.union_count.ensures outer outer c.words.ensures c.words-2.ensures refl in
    let most = columns_within outer outer in
    omega (arith, is, most, c.columns-columns.ensures, c.columns-columns.type_inv)

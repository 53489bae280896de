-- The new row has the merged terms.
use Rattle.std.proofs.Common.{subst, sym}
use Rattle.std.proofs.lemmas.Int.{to_z-of_z}
use Rattle.cone_arithmetic.specs.Sparse.{IsInRange}
use Rattle.cone_row_laws.specs.Operations.{IsSumWith}
use Rattle.row_reduction.proofs.merge.add_multiple.Goals as goal

pub returns-clause-sum : goal.returns-clause-sum
returns-clause-sum c =
    let h = c.ranges.factor in
    let sum = simp to_z-of_z at c.in_ok-terms.ensures.sum in
    subst (λ r. IsSumWith c.args.pair.now.row.now c.args.factor c.args.pair.now.other.now r) (sym c.of.ensures) sum

pub returns-clause-in_range : goal.returns-clause-in_range
returns-clause-in_range c = subst (IsInRange c.args.pair.now.columns) (sym c.of.ensures) c.in_ok-terms.ensures.in_range

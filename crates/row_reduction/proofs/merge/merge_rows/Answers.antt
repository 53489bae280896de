-- Each pass of the loop reads at least one term, and preserves what is merged.
use Rattle.std.proofs.Common.{rules, w32, FitsSigned, inl, inr, arith}
use Rattle.std.proofs.lemmas.Int.{to_z-of_z}
use Rattle.row_reduction.proofs.PlaceLemmas.{taken_within}
use Rattle.std.proofs.lemmas.Result.{err_from_is_err_and}
use Rattle.row_reduction.proofs.ColumnLemmas.{bounded_at, row_before_more, other_before_more, fault_in_merge}
use Rattle.row_reduction.proofs.MergeLemmas.{merged_none, merged_more, merge_moves, sum_of_all, all_in_range}
use Rattle.row_reduction.proofs.merge.merge_rows.Goals as goal
use Rattle.row_reduction.proofs.merge.merge_rows.Goals.{then-i-pair, else-i-pair+then-j-pair}

pub least_column-column-requires : goal.least_column-column-requires
least_column-column-requires c = record {
  left = elim c.if-i-pair.branch [
    | then-i-pair w ↦ inl w.if-i-pair.true
    | else-i-pair+then-j-pair w ↦ inr w.if-j-pair.true
  ];
}

pub loop-i-smaller : goal.loop-i-smaller
loop-i-smaller c =
    let f : FitsSigned w32 c.take_at-one.result.coefficient = search rules in
    let g : FitsSigned w32 c.take_at-two.result.coefficient = search rules in
    let h = c.ranges.factor in
    merge_moves _ _ c.args.factor _ _ _ c.loop-i.terms.items (simp to_z-of_z at c.loop-i.invariant.merged) _ _ _ _ _ c.take_at-one.ensures c.take_at-two.ensures
    c.push_sum.new.terms.items (simp to_z-of_z at c.in_ok-push_sum.ensures.appends) c.least_column-column.ensures c.loop-i.invariant.within c.loop-i.invariant.other_within

pub loop-i-preserved : goal.loop-i-preserved
loop-i-preserved c =
    let f : FitsSigned w32 c.take_at-one.result.coefficient = search rules in
    let g : FitsSigned w32 c.take_at-two.result.coefficient = search rules in
    let h = c.ranges.factor in
    record {
      within = (taken_within _ _ _ _ _ c.loop-i.invariant.within c.take_at-one.ensures).1;
      other_within = (taken_within _ _ _ _ _ c.loop-i.invariant.other_within c.take_at-two.ensures).1;
      row_before = row_before_more _ _ _ _ _ _ _ _ _ _ c.take_at-one.ensures c.take_at-two.ensures c.least_column-column.ensures c.args.pair.now.sparse c.args.pair.now.other_sparse c.args.pair.now.in_range
          c.args.pair.now.other_in_range c.loop-i.invariant.within c.loop-i.invariant.other_within c.loop-i.invariant.row_before c.loop-i.invariant.other_before;
      other_before = other_before_more _ _ _ _ _ _ _ _ _ _ c.take_at-one.ensures c.take_at-two.ensures c.least_column-column.ensures c.args.pair.now.sparse c.args.pair.now.other_sparse c.args.pair.now.in_range
          c.args.pair.now.other_in_range c.loop-i.invariant.within c.loop-i.invariant.other_within c.loop-i.invariant.row_before c.loop-i.invariant.other_before;
      merged = rw (to_z-of_z w32 c.args.factor h) (merged_more _ _ c.args.factor _ _ _ c.loop-i.terms.items (simp to_z-of_z at c.loop-i.invariant.merged) _ _ _ _ _ c.take_at-one.ensures c.take_at-two.ensures
          c.push_sum.new.terms.items (simp to_z-of_z at c.in_ok-push_sum.ensures.appends) c.least_column-column.ensures c.args.pair.now.sparse c.args.pair.now.other_sparse);
    }

pub loop-i-init : goal.loop-i-init
loop-i-init c = record {
  within = omega arith;
  other_within = omega arith;
  merged = merged_none _ _ _ _ _ c.new-terms.ensures.items;
  row_before = λ k less. absurd (omega arith);
  other_before = λ k less. absurd (omega arith);
}

pub returns-clause-sum : goal.returns-clause-sum
returns-clause-sum c =
    let h = c.ranges.factor in
    sum_of_all _ _ c.args.factor _ _ _ c.loop-i.terms.items (simp to_z-of_z at c.loop-i.invariant.merged) c.if-i-pair.false c.if-j-pair.false

pub returns-clause-sparse : goal.returns-clause-sparse
returns-clause-sparse c = c.loop-i.invariant.merged.is_sparse

pub returns-clause-in_range : goal.returns-clause-in_range
returns-clause-in_range c = all_in_range _ _ _ _ _ _ c.loop-i.terms.items c.loop-i.invariant.merged c.if-i-pair.false

pub returns-in_err-push_sum-clause-passed : goal.returns-in_err-push_sum-clause-passed
returns-in_err-push_sum-clause-passed c =
    let f : FitsSigned w32 c.take_at-one.result.coefficient = search rules in
    let g : FitsSigned w32 c.take_at-two.result.coefficient = search rules in
    let h = c.ranges.factor in
    let small = bounded_at _ _ _ _ _ c.args.pair.now.sparse c.take_at-one.ensures in
    let p = err_from_is_err_and c.from_residual.result c.from_residual.ensures.1 in
    rw (p.1, p.2) (fault_in_merge _ _ _ _ _ _ _ _ _ _ c.take_at-one.ensures c.take_at-two.ensures c.least_column-column.ensures c.args.pair.now.sparse c.args.pair.now.other_sparse c.args.pair.now.in_range
    c.args.pair.now.other_in_range c.loop-i.invariant.within c.loop-i.invariant.other_within c.loop-i.invariant.row_before c.loop-i.invariant.other_before c.args.factor _
    ((simp to_z-of_z at c.in_err-push_sum.ensures.passed) small))

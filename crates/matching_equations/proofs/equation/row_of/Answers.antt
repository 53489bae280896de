use Rattle.std.proofs.Common.{◌≡◌, subst, sym, ◌∙◌, arith}
use Rattle.cone_arithmetic.specs.Sparse.{IsSparse, IsInRange}
use Rattle.matching_equations.proofs.Terms.{equation_of, first_terms, terms_on, made_row, row_is_sparse, row_in_range}
use Rattle.matching_equations.proofs.equation.row_of.Goals as goal

pub loop-column-init : goal.loop-column-init
loop-column-init c = record {
  within = omega arith;
  terms = c.new-terms.ensures.items
      ∙ first_terms c.args.sides.left.now c.args.sides.right.now c.next_column.result c.next_column-column.result c.next_column-column.ensures.within c.next_column.ensures.none_before c.next_column-column.ensures.none_before;
}

pub loop-column-preserved : goal.loop-column-preserved
loop-column-preserved c = record {
  within = omega arith;
  terms = terms_on c.args.sides.left.now c.args.sides.right.now c.loop-column.column c.next_column-in-loop-column.result c.next_column-column-in-loop-column.result c.loop-column.terms.items c.push_term.new.terms.items
      c.loop-column.invariant.terms c.in_ok-push_term.ensures c.next_column-column-in-loop-column.ensures.least c.next_column-column-in-loop-column.ensures.within
      c.next_column-in-loop-column.ensures.none_before c.next_column-column-in-loop-column.ensures.none_before;
}

pub of-requires : goal.of-requires
of-requires c =
    let whole : c.loop-column.column ≡ c.args.columns = omega arith in
    subst IsSparse (sym (made_row c.args.sides.left.now c.args.sides.right.now c.loop-column.column c.args.columns whole c.loop-column.invariant.terms))
    (row_is_sparse (equation_of c.args.sides.left.now c.args.sides.right.now) c.args.columns c.args.sides.left_bounded c.args.sides.right_bounded)

pub returns-clause-value : goal.returns-clause-value
returns-clause-value c =
    let whole : c.loop-column.column ≡ c.args.columns = omega arith in
    c.of.ensures ∙ made_row c.args.sides.left.now c.args.sides.right.now c.loop-column.column c.args.columns whole c.loop-column.invariant.terms

pub returns-clause-in_range : goal.returns-clause-in_range
returns-clause-in_range c =
    subst (IsInRange c.args.columns) (sym (returns-clause-value c))
    (row_in_range (equation_of c.args.sides.left.now c.args.sides.right.now) c.args.columns c.args.sides.left_bounded c.args.sides.right_bounded)

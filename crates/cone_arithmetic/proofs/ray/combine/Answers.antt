use Rattle.std.proofs.Common.{length, ap, sym, ◌∙◌, arith}
use Rattle.cone_arithmetic.proofs.EntryLemmas.{positive_divisor, combined, divided_in_place, reduced_columns}
use Rattle.cone_arithmetic.specs.declared.numbers.TheConstants.{MAX_ENTRY}
use Rattle.cone_arithmetic.proofs.ray.combine.Goals as goal

pub quotient-requires : goal.quotient-requires
quotient-requires c = positive_divisor _ _ _ c.gcd-divisor.ensures c.requires.some_u

pub quotient-requires-2 : goal.quotient-requires-2
quotient-requires-2 c = positive_divisor _ _ _ c.gcd-divisor.ensures c.requires.some_u

pub invariant_of-combination : goal.invariant_of-combination
invariant_of-combination c = record {
  lengths = ap length c.entries-2.ensures.entries ∙ c.requires.lengths ∙ ap length (sym c.entries.ensures.entries);
  width = let e = ap length c.entries.ensures.entries in omega (arith, e, c.entries.ensures.reduced.width);
}

pub invariant_of-result : goal.invariant_of-result
invariant_of-result c =
    let k = combined c.args.limit MAX_ENTRY c.args.at_u c.args.at_w c.gcd-divisor.result c.divide_by_common.result c.args.u.now c.args.w.now c.entries-2.result.now c.entries.result.now
    c.in_ok-sums.sums.items c.deref_mut.result.now c.gcd-divisor.ensures c.requires.some_u c.requires.some_w c.requires.lengths
    c.entries.ensures.entries c.entries-2.ensures.entries c.entries.ensures.reduced.width c.entries-2.ensures.reduced c.requires.most_limit
    (rw (c.quotient.ensures, c.quotient-2.ensures) at c.in_ok-sums.ensures.ok) (rw (c.quotient.ensures, c.quotient-2.ensures) at c.in_ok-sums.ensures.within) c.deref_mut.ensures.value c.divide_by_common.ensures.divisor in
    rw (divided_in_place _ c.divide_by_common.result c.in_ok-sums.sums.items _ c.divide_by_common.new.entries c.deref_mut.ensures.value (c.divide_by_common.ensures.divided k.positive) c.in_ok-sums.sums.ok.0)
    k.reduced

pub returns-clause-ok : goal.returns-clause-ok
returns-clause-ok c =
    let k = combined c.args.limit MAX_ENTRY c.args.at_u c.args.at_w c.gcd-divisor.result c.divide_by_common.result c.args.u.now c.args.w.now c.entries-2.result.now c.entries.result.now
    c.in_ok-sums.sums.items c.deref_mut.result.now c.gcd-divisor.ensures c.requires.some_u c.requires.some_w c.requires.lengths
    c.entries.ensures.entries c.entries-2.ensures.entries c.entries.ensures.reduced.width c.entries-2.ensures.reduced c.requires.most_limit
    (rw (c.quotient.ensures, c.quotient-2.ensures) at c.in_ok-sums.ensures.ok) (rw (c.quotient.ensures, c.quotient-2.ensures) at c.in_ok-sums.ensures.within) c.deref_mut.ensures.value c.divide_by_common.ensures.divisor in
    rw (divided_in_place _ c.divide_by_common.result c.in_ok-sums.sums.items _ c.divide_by_common.new.entries c.deref_mut.ensures.value (c.divide_by_common.ensures.divided k.positive) c.in_ok-sums.sums.ok.0)
    k.by_values

pub returns-clause-columns : goal.returns-clause-columns
returns-clause-columns c = reduced_columns c.args.limit c.args.at_u c.args.at_w c.args.u.now c.args.w.now _ c.requires.lengths (returns-clause-ok c)

use Rattle.cone_arithmetic.specs.RayEntries.{numbers_of}
use Rattle.cone_arithmetic.proofs.EntryLemmas.{positive_divisor, combined_divided, reduced_columns}
use Rattle.cone_arithmetic.specs.declared.numbers.TheConstants.{MAX_ENTRY}
use Rattle.cone_arithmetic.proofs.pair.combine_inside.Goals as goal

pub quotient-a-requires : goal.quotient-a-requires
quotient-a-requires c = positive_divisor _ _ _ c.gcd-greatest.ensures c.args.pair.some_u

pub quotient-b-requires : goal.quotient-b-requires
quotient-b-requires c = positive_divisor _ _ _ c.gcd-greatest.ensures c.args.pair.some_u

pub invariant_of-result : goal.invariant_of-result
invariant_of-result c =
    (combined_divided c.args.limit.number MAX_ENTRY c.args.pair.at_u c.args.pair.at_w c.gcd-greatest.result c.args.pair.u.now c.args.pair.w.now (numbers_of c.in-Some.sums) _
    c.gcd-greatest.ensures c.args.pair.some_u c.args.pair.some_w c.args.pair.lengths c.columns-columns.ensures.reduced c.args.limit.fits
    (rw (c.quotient-a.ensures, c.quotient-b.ensures) at (rw c.in-Some.is at c.in_ok-sums.ensures.sums)) (rw (c.quotient-a.ensures, c.quotient-b.ensures) at (rw c.in-Some.is at c.in_ok-sums.ensures.within))
    c.in_ok-entries.ensures).0

pub returns-clause-ok : goal.returns-clause-ok
returns-clause-ok c =
    (combined_divided c.args.limit.number MAX_ENTRY c.args.pair.at_u c.args.pair.at_w c.gcd-greatest.result c.args.pair.u.now c.args.pair.w.now (numbers_of c.in-Some.sums) _
    c.gcd-greatest.ensures c.args.pair.some_u c.args.pair.some_w c.args.pair.lengths c.columns-columns.ensures.reduced c.args.limit.fits
    (rw (c.quotient-a.ensures, c.quotient-b.ensures) at (rw c.in-Some.is at c.in_ok-sums.ensures.sums)) (rw (c.quotient-a.ensures, c.quotient-b.ensures) at (rw c.in-Some.is at c.in_ok-sums.ensures.within))
    c.in_ok-entries.ensures).1

pub returns-clause-columns : goal.returns-clause-columns
returns-clause-columns c = reduced_columns c.args.limit.number c.args.pair.at_u c.args.pair.at_w c.args.pair.u.now c.args.pair.w.now _ c.args.pair.lengths (returns-clause-ok c)

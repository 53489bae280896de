use Rattle.std.proofs.Common.{subst, take}
use Rattle.std.specs.Int.{IsGcd}
use Rattle.cone_arithmetic.specs.Combinations.{IsEntriesGcd}
use Rattle.cone_arithmetic.specs.NarrowEntries.{narrow_numbers}
use Rattle.cone_arithmetic.proofs.EntryLemmas.{entries_gcd_more, entries_gcd_one}
use Rattle.cone_arithmetic.proofs.divisors.common_small_divisor.Goals as goal

pub loop-column-preserved : goal.loop-column-preserved
loop-column-preserved c = entries_gcd_more (narrow_numbers c.args.entries) c.loop-column.column _ _ c.loop-column.invariant
    (subst (λ entry. IsGcd c.loop-column.divisor entry c.gcd_of_small-divisor.result) c.at.ensures c.gcd_of_small-divisor.ensures)

pub returns-then-divisor-eq1 : goal.returns-then-divisor-eq1
returns-then-divisor-eq1 c = entries_gcd_one (narrow_numbers c.args.entries) c.loop-column.column (subst (λ d. IsEntriesGcd (take c.loop-column.column (narrow_numbers c.args.entries)) d) c.if-divisor-eq1.true c.loop-column.invariant)

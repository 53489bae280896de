use Rattle.std.proofs.Common.{take}
use Rattle.cone_arithmetic.specs.Combinations.{IsEntriesGcd}
use Rattle.cone_arithmetic.specs.NarrowEntries.{narrow_numbers}
use Rattle.cone_arithmetic.proofs.divisors.common_small_divisor.Given as goal

abbrev pub invariant-loop-column : goal.invariant-loop-column
invariant-loop-column l = IsEntriesGcd (take l.column (narrow_numbers l.entries)) l.divisor

use Rattle.std.proofs.Common.{⊎_elim, inl, inr, refl, sym, ◌∙◌, pos, arith, rules, w32, FitsSigned, get_or}
use Rattle.std.proofs.lemmas.Int.{ints, to_z-of_z}
use Rattle.std.proofs.lemmas.Result.{err_from_is_err_and}
use Rattle.cone_definitions.specs.Elimination.{HasLargePart}
use Rattle.cone_definitions.proofs.Parts.{plus_more_le, minus_more_le}
use Rattle.cone_arithmetic.proofs.PartLemmas.{plus_more, minus_more}
use Rattle.cone_arithmetic.proofs.numbers.small_parts.Goals as goal

pub returns-in_err-sums-clause-passed : goal.returns-in_err-sums-clause-passed
returns-in_err-sums-clause-passed c =
    let p = err_from_is_err_and c.from_residual.result c.from_residual.ensures.1 in
    let limit = c.loop-column.invariant.limit in
    let large : HasLargePart c.args.limit c.entries-entries.result.now c.args.x.now = ⊎_elim
    (λ h. inl (let m = plus_more_le c.entries-entries.result.now c.args.x.now c.loop-column.column-index (0, pos 0) c.loop-column-test.true in grind (arith, ints, to_z-of_z)))
    (λ h. inr (let m = minus_more_le c.entries-entries.result.now c.args.x.now c.loop-column.column-index (0, pos 0) c.loop-column-test.true in grind (arith, ints, to_z-of_z)))
    c.in_err-sums.ensures.passed in
    rw (p.1, sym c.entries-entries.ensures.entries) ((λ _. large), (λ _. refl))

pub loop-column-preserved : goal.loop-column-preserved
loop-column-preserved c =
    let f : FitsSigned w32 (get_or c.entries-entries.result.now c.loop-column.column-index (0, pos 0)).1 = search rules in
    let sums = simp (to_z-of_z, c.from.ensures) at c.in_ok-sums.ensures in
    let limit = sums.limit ∙ c.loop-column.invariant.limit in
    record {
      entries = c.entries-entries.ensures.entries;
      plus = plus_more c.entries-entries.result.now c.args.x.now c.loop-column.column-index c.loop-column.sums.0 c.in_ok-sums.sums.plus c.loop-column-test.true c.loop-column.invariant.plus sums.plus;
      minus = minus_more c.entries-entries.result.now c.args.x.now c.loop-column.column-index c.loop-column.sums.1.0 c.in_ok-sums.sums.minus c.loop-column-test.true c.loop-column.invariant.minus sums.minus;
      limit = limit;
      plus_within = omega (arith, limit, c.in_ok-sums.sums.plus_within);
      minus_within = omega (arith, limit, c.in_ok-sums.sums.minus_within);
    }

-- The words name all columns.
use Rattle.std.proofs.Common.{◌*◌, ◌∙◌, sym, arith}
use Rattle.cone_definitions.specs.Vectors.{multiple, sum_of}
use Rattle.cone_arithmetic.specs.NarrowEntries.{narrow_numbers}
use Rattle.cone_arithmetic.proofs.EntryLemmas.{length-sums}
use Rattle.cone_arithmetic.proofs.FillLemmas.{filled_none, filled_is, filled_within}
use Rattle.cone_arithmetic.proofs.filled.sums_at.Goals as goal

pub loop-k-init : goal.loop-k-init
loop-k-init c =
    let z = c.args.combination in
    filled_none c.args.limit (sum_of (multiple z.a (narrow_numbers z.w)) (multiple z.b (narrow_numbers z.u))) c.in_ok-sums.sums.items c.len.result
    (c.in_ok-sums.ensures.items_if_clones_equal (λ y e. e)) (c.len.ensures ∙ sym (length-sums z.a z.b (narrow_numbers z.w) (narrow_numbers z.u) z.lengths))

pub returns-clause-sums : goal.returns-clause-sums
returns-clause-sums c =
    let z = c.args.combination in
    filled_is c.args.limit (sum_of (multiple z.a (narrow_numbers z.w)) (multiple z.b (narrow_numbers z.u))) (64 * c.loop-k.k) c.loop-k.sums.items c.loop-k.invariant
    (let n = z.names.count in let t = c.loop-k-test.false in omega (arith, n, t))

pub returns-clause-within : goal.returns-clause-within
returns-clause-within c =
    let z = c.args.combination in
    filled_within c.args.limit (sum_of (multiple z.a (narrow_numbers z.w)) (multiple z.b (narrow_numbers z.u))) (64 * c.loop-k.k) c.loop-k.sums.items c.loop-k.invariant
    (let n = z.names.count in let t = c.loop-k-test.false in omega (arith, n, t))

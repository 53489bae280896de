-- The words name all columns.
use Rattle.std.proofs.Common.{◌*◌, sym, arith, length}
use Rattle.cone_definitions.specs.Vectors.{multiple, sum_of}
use Rattle.cone_arithmetic.proofs.EntryLemmas.{length-sums}
use Rattle.cone_arithmetic.proofs.FillLemmas.{filled_none, filled_is, filled_within}
use Rattle.cone_arithmetic.proofs.filled.byte_sums_at.Goals as goal

pub loop-k-init : goal.loop-k-init
loop-k-init c =
    let z = c.args.combination in
    filled_none c.min-most.result (sum_of (multiple z.a z.w.now) (multiple z.b z.u.now)) c.in_ok-sums.sums.items (length z.w.now)
    (c.in_ok-sums.ensures.items_if_clones_equal (λ y e. e)) (sym (length-sums z.a z.b z.w.now z.u.now z.lengths))

pub returns-clause-sums : goal.returns-clause-sums
returns-clause-sums c =
    let z = c.args.combination in
    filled_is c.min-most.result (sum_of (multiple z.a z.w.now) (multiple z.b z.u.now)) (64 * c.loop-k.k) c.loop-k.sums.items c.loop-k.invariant
    (let n = z.names.count in let t = c.loop-k-test.false in omega (arith, n, t))

pub returns-clause-within : goal.returns-clause-within
returns-clause-within c column =
    let z = c.args.combination in
    let within = filled_within c.min-most.result (sum_of (multiple z.a z.w.now) (multiple z.b z.u.now)) (64 * c.loop-k.k) c.loop-k.sums.items c.loop-k.invariant
    (let n = z.names.count in let t = c.loop-k-test.false in omega (arith, n, t)) column in
    omega (arith, within, c.min-most.ensures)

-- The column of the next bit is one of the vector, and the columns before it are not named.
use Rattle.std.proofs.Common.{◌+◌, ◌*◌, ◌<◌, refl, arith, sym, ◌∙◌, w64}
use Rattle.std.proofs.Math.Facts.{Fits-lt-pow}
use Rattle.std.specs.Int.{trailing_zeros}
use Rattle.cone_definitions.specs.Vectors.{multiple, sum_of}
use Rattle.cone_arithmetic.proofs.EntryLemmas.{entry-sums, length-sums}
use Rattle.cone_arithmetic.proofs.FillLemmas.{filled_all, filled_more, names_more, within_columns}
use Rattle.cone_arithmetic.proofs.filled.fill_bytes.Goals as goal

pub loop-rest-init : goal.loop-rest-init
loop-rest-init c = record { filled = c.requires.filled; names = c.args.combination.names.each c.args.k c.requires.in_range }

pub overflow_add-place : goal.overflow_add-place
overflow_add-place c =
    let n = within_columns c.args.most c.args.combination.a c.args.combination.b c.args.combination.w.now c.args.combination.u.now c.loop-rest.column (64 * c.args.k + 64) c.loop-rest.rest c.loop-rest.sums.items c.args.combination.lengths
    c.loop-rest.invariant.filled c.loop-rest.invariant.names (omega (arith, c.loop-rest-test.true)) (Fits-lt-pow c.loop-rest.auto.rest-fits) in
    omega (arith, n, c.args.combination.width)

pub bounds-w-place : goal.bounds-w-place
bounds-w-place c =
    within_columns c.args.most c.args.combination.a c.args.combination.b c.args.combination.w.now c.args.combination.u.now c.loop-rest.column (64 * c.args.k + 64) c.loop-rest.rest c.loop-rest.sums.items c.args.combination.lengths
    c.loop-rest.invariant.filled c.loop-rest.invariant.names (omega (arith, c.loop-rest-test.true)) (Fits-lt-pow c.loop-rest.auto.rest-fits)

pub bounds-u-place : goal.bounds-u-place
bounds-u-place c =
    let n = within_columns c.args.most c.args.combination.a c.args.combination.b c.args.combination.w.now c.args.combination.u.now c.loop-rest.column (64 * c.args.k + 64) c.loop-rest.rest c.loop-rest.sums.items c.args.combination.lengths
    c.loop-rest.invariant.filled c.loop-rest.invariant.names (omega (arith, c.loop-rest-test.true)) (Fits-lt-pow c.loop-rest.auto.rest-fits) in
    omega (arith, n, c.args.combination.lengths)

pub index_mut-requires : goal.index_mut-requires
index_mut-requires c =
    let n = within_columns c.args.most c.args.combination.a c.args.combination.b c.args.combination.w.now c.args.combination.u.now c.loop-rest.column (64 * c.args.k + 64) c.loop-rest.rest c.loop-rest.sums.items c.args.combination.lengths
    c.loop-rest.invariant.filled c.loop-rest.invariant.names (omega (arith, c.loop-rest-test.true)) (Fits-lt-pow c.loop-rest.auto.rest-fits) in
    let e = length-sums c.args.combination.a c.args.combination.b c.args.combination.w.now c.args.combination.u.now c.args.combination.lengths in
    let k = c.loop-rest.invariant.filled.count in
    let v = c.loop-rest.sums.ok.0 in
    omega (arith, n, e, k, v)

pub overflow_add-column : goal.overflow_add-column
overflow_add-column c =
    let n = within_columns c.args.most c.args.combination.a c.args.combination.b c.args.combination.w.now c.args.combination.u.now c.loop-rest.column (64 * c.args.k + 64) c.loop-rest.rest c.loop-rest.sums.items c.args.combination.lengths
    c.loop-rest.invariant.filled c.loop-rest.invariant.names (omega (arith, c.loop-rest-test.true)) (Fits-lt-pow c.loop-rest.auto.rest-fits) in
    omega (arith, n, c.args.combination.width)

pub loop-rest-preserved : goal.loop-rest-preserved
loop-rest-preserved c =
    let z = sum_of (multiple c.args.combination.a c.args.combination.w.now) (multiple c.args.combination.b c.args.combination.u.now) in
    let rest = c.loop-rest.rest in
    let skip = trailing_zeros w64 rest in
    let some : 0 < rest = omega (arith, c.loop-rest-test.true) in
    let at = entry-sums c.args.combination.a c.args.combination.b c.args.combination.w.now c.args.combination.u.now c.args.combination.lengths (c.loop-rest.column + skip) in
    record {
      filled = filled_more c.args.most z c.loop-rest.column (64 * c.args.k + 64) rest c.loop-rest.sums.items c.loop-rest.invariant.filled c.loop-rest.invariant.names skip refl some
          (Fits-lt-pow c.loop-rest.auto.rest-fits) c.in-Some.sum (c.in-Some.ensures.some ∙ sym at) c.in-Some.ensures.within;
      names = names_more c.args.most z c.loop-rest.column (64 * c.args.k + 64) rest c.loop-rest.sums.items c.loop-rest.invariant.filled c.loop-rest.invariant.names skip refl some
          (Fits-lt-pow c.loop-rest.auto.rest-fits);
    }

pub returns : goal.returns
returns c _ = filled_all c.args.most (sum_of (multiple c.args.combination.a c.args.combination.w.now) (multiple c.args.combination.b c.args.combination.u.now)) c.loop-rest.column (64 * c.args.k + 64) c.loop-rest.rest c.loop-rest.sums.items
    c.loop-rest.invariant.filled c.loop-rest.invariant.names (omega (arith, c.loop-rest-test.false))

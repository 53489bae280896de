-- A row has at most 2^32 terms, since its columns ascend.
use Rattle.std.proofs.Common.{pos, arith, rules, w32, Fits, FitsSigned, get_or}
use Rattle.std.proofs.lemmas.Int.{to_z-of_z}
use Rattle.std.proofs.Math.Facts.{Fits-lt-pow}
use Rattle.cone_arithmetic.proofs.PartLemmas.{plus_more, minus_more, index_le_column}
use Rattle.cone_arithmetic.proofs.numbers.byte_parts.Goals as goal

pub add_byte_term-sums-requires-clause-plus_room : goal.add_byte_term-sums-requires-clause-plus_room
add_byte_term-sums-requires-clause-plus_room c =
    let fits : Fits w32 (get_or c.entries-entries.result.now c.loop-column.column-index (0, pos 0)).0 = search rules in
    let e = c.entries-entries.ensures in
    let below = index_le_column c.entries-entries.result.now (rw e.entries e.sparse) c.loop-column.column-index c.loop-column-test.true in
    let bounded = c.loop-column.invariant.plus_bounded in
    omega (arith, below, bounded, Fits-lt-pow fits)

pub add_byte_term-sums-requires-clause-minus_room : goal.add_byte_term-sums-requires-clause-minus_room
add_byte_term-sums-requires-clause-minus_room c =
    let fits : Fits w32 (get_or c.entries-entries.result.now c.loop-column.column-index (0, pos 0)).0 = search rules in
    let e = c.entries-entries.ensures in
    let below = index_le_column c.entries-entries.result.now (rw e.entries e.sparse) c.loop-column.column-index c.loop-column-test.true in
    let bounded = c.loop-column.invariant.minus_bounded in
    omega (arith, below, bounded, Fits-lt-pow fits)

pub loop-column-preserved : goal.loop-column-preserved
loop-column-preserved c =
    let f : FitsSigned w32 (get_or c.entries-entries.result.now c.loop-column.column-index (0, pos 0)).1 = search rules in
    let sums = simp to_z-of_z at c.add_byte_term-sums.ensures in
    let before = c.loop-column.invariant in
    record {
      entries = c.entries-entries.ensures.entries;
      plus = plus_more c.entries-entries.result.now c.args.x.now c.loop-column.column-index c.loop-column.sums.plus c.add_byte_term-sums.result.plus c.loop-column-test.true before.plus sums.plus;
      minus = minus_more c.entries-entries.result.now c.args.x.now c.loop-column.column-index c.loop-column.sums.minus c.add_byte_term-sums.result.minus c.loop-column-test.true before.minus sums.minus;
      plus_bounded = omega (arith, before.plus_bounded, c.add_byte_term-sums.ensures.plus_bounded);
      minus_bounded = omega (arith, before.minus_bounded, c.add_byte_term-sums.ensures.minus_bounded);
    }

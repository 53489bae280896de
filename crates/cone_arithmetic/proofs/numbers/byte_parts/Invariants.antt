-- the sums are the parts of the terms so far, each of which adds at most 255,000,000
use Rattle.std.proofs.Common.{◌≡◌, ◌≤◌, ◌*◌, take}
use Rattle.cone_definitions.specs.Rows.{plus_part, minus_part}
use Rattle.cone_arithmetic.proofs.numbers.byte_parts.Given as goal

abbrev pub invariant-loop-column : goal.invariant-loop-column
invariant-loop-column l = record {
  entries : l.entries ≡ l.row;
  plus : l.sums.plus ≡ plus_part (take l.column-index l.entries) l.x;
  minus : l.sums.minus ≡ minus_part (take l.column-index l.entries) l.x;
  plus_bounded : l.sums.plus ≤ 255000000 * l.column-index;
  minus_bounded : l.sums.minus ≤ 255000000 * l.column-index;
}

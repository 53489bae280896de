-- the sums are the parts of the terms so far, within the limit
use Rattle.std.proofs.Common.{◌≡◌, ◌≤◌, take}
use Rattle.cone_definitions.specs.Rows.{plus_part, minus_part}
use Rattle.cone_arithmetic.proofs.numbers.parts.Given as goal

abbrev pub invariant-loop-column : goal.invariant-loop-column
invariant-loop-column l = record {
  entries : l.entries ≡ l.row;
  plus : l.sums.0 ≡ plus_part (take l.column-index l.entries) l.x;
  minus : l.sums.1.0 ≡ minus_part (take l.column-index l.entries) l.x;
  limit : l.sums.1.1.0 ≡ l.limit;
  plus_within : l.sums.0 ≤ l.limit;
  minus_within : l.sums.1.0 ≤ l.limit;
}

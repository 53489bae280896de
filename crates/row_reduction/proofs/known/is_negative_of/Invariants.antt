-- the terms so far are negated
use Rattle.std.proofs.Common.{◌≡◌, length, take}
use Rattle.cone_row_laws.specs.Operations.{negated}
use Rattle.row_reduction.proofs.known.is_negative_of.Given as goal

abbrev pub invariant-loop-i : goal.invariant-loop-i
invariant-loop-i l = record {
  count : length l.one ≡ length l.other;
  same : take l.i l.one ≡ take l.i (negated l.other);
}

use Rattle.std.proofs.Common.{◌≡◌, ℕ, ◌+◌, ◌/◌, length}
use Rattle.std.specs.Prelude.{◌&&◌, nat_lt}
use Rattle.surface_definitions.specs.Coordinates.{columns}
use Rattle.support_bits.specs.Words.{bit_of}
use Rattle.quad_condition.specs.Marks.{is_marked}
use Rattle.quad_condition.proofs.masks.mask.Given as goal

abbrev pub invariant-loop-column : goal.invariant-loop-column
invariant-loop-column l = record {
  count : length l.words.items ≡ (columns l.fn.space.coords l.space.tets + 63) / 64;
  bits : (k : ℕ) → bit_of l.words.items k ≡ (nat_lt k l.column && is_marked l.fn.space.coords l.least l.distance k);
}

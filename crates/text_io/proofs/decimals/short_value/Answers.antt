-- The value of at most 18 digits fits 64 bits.
use Rattle.std.proofs.Common.{arith}
use Rattle.std.proofs.lemmas.Bool.Decides.{nat_tests}
use Rattle.text_io.proofs.Values.{short_below}
use Rattle.text_io.proofs.decimals.short_value.Goals as goal

pub overflow_mul-value : goal.overflow_mul-value
overflow_mul-value c = omega (arith, short_below c.loop-byte.byte-index c.loop-byte.value (omega arith) c.loop-byte.invariant.2)

pub overflow_add-value : goal.overflow_add-value
overflow_add-value c =
    grind (arith, nat_tests, short_below c.loop-byte.byte-index c.loop-byte.value (omega arith) c.loop-byte.invariant.2, c.is_ascii_digit.ensures)

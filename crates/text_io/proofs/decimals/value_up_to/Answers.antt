use Rattle.std.proofs.Common.{arith}
use Rattle.text_io.proofs.Values.{above_max}
use Rattle.text_io.proofs.decimals.value_up_to.Goals as goal

pub returns-in_err-checked_mul : goal.returns-in_err-checked_mul
returns-in_err-checked_mul c =
    rw c.from_residual.ensures
    (above_max c.args.digits.now c.loop-digit.digit-index c.args.max c.loop-digit.value (omega arith) c.loop-digit.invariant (omega arith))

pub returns-in_err-value : goal.returns-in_err-value
returns-in_err-value c =
    rw c.from_residual-in_err-value.ensures
    (above_max c.args.digits.now c.loop-digit.digit-index c.args.max c.loop-digit.value (omega arith) c.loop-digit.invariant (omega arith))

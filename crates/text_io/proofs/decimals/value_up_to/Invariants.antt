-- The value of the digits so far.
use Rattle.std.proofs.Common.{◌≡◌, take}
use Rattle.text_definitions.specs.Text.{digits_value}
use Rattle.text_io.proofs.decimals.value_up_to.Given as goal

abbrev pub invariant-loop-digit : goal.invariant-loop-digit
invariant-loop-digit l = l.value ≡ digits_value (take l.digit-index l.digits)

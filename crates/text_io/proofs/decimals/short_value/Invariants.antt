-- The bytes so far are digits, and the value is theirs.
use Rattle.std.proofs.Common.{◌≡◌, ◌<◌, ◌^◌, true, take}
use Rattle.std.specs.Char.{is_ascii_digit}
use Rattle.std.specs.List.{list_all}
use Rattle.text_definitions.specs.Text.{digits_value}
use Rattle.text_io.proofs.decimals.short_value.Given as goal

abbrev pub invariant-loop-byte : goal.invariant-loop-byte
invariant-loop-byte l =
    (list_all is_ascii_digit (take l.byte-index l.word) ≡ true) × (l.value ≡ digits_value (take l.byte-index l.word)) × (l.value < 10 ^ l.byte-index)

-- The values of the workbench's types.
use Rattle.std.specs.Prelude.{ℕ, List}
use Rattle.outcome_definitions.specs.Lines.{usage_line, read_line, too_long_line}
use Rattle.outcome_definitions.specs.Canonical.{different_text}
use Rattle.command_answers.specs.declared.outcome.Fixed.{Fixed}
use Rattle.command_answers.specs.declared.outcome.Fixed.TheVariants.{Usage, ReadFault, TooLong, Different}
use Rattle.command_answers.specs.declared.outcome.Text.{Text}
use Rattle.command_answers.specs.declared.outcome.Text.TheVariants as texts

-- the bytes of a text that needs no allocation, and of any text
abbrev pub fixed_bytes : Fixed → List ℕ
fixed_bytes Usage = usage_line
fixed_bytes ReadFault = read_line
fixed_bytes TooLong = too_long_line
fixed_bytes Different = different_text

abbrev pub text_bytes : Text → List ℕ
text_bytes (texts.Fixed fixed) = fixed_bytes fixed
text_bytes (texts.Built text) = text.items

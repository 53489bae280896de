use Rattle.std.proofs.Common.{◌≡◌, ◌-◌, ◌++◌}
use Rattle.signature_text_laws.specs.Texts.{number_text}
use Rattle.signature_codec.proofs.spelling.append_number.Given as goal

abbrev pub invariant-loop-place : goal.invariant-loop-place
invariant-loop-place l = l.text.items ++ number_text (l.width - l._place) l.left ≡ l.fn.text.items ++ number_text l.width l.number

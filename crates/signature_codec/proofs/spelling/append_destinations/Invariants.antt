use Rattle.std.proofs.Common.{◌≡◌, ◌++◌, drop}
use Rattle.signature_text_laws.specs.Texts.{destinations_text}
use Rattle.signature_codec.proofs.spelling.append_destinations.Given as goal

abbrev pub invariant-loop-glue : goal.invariant-loop-glue
invariant-loop-glue l = l.text.items ++ destinations_text l.width (drop l.glue-index l.gluings) ≡ l.fn.text.items ++ destinations_text l.width l.gluings

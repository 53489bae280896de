use Rattle.std.proofs.Common.{◌≡◌, ◌++◌, drop}
use Rattle.signature_text_laws.specs.Texts.{indices_text}
use Rattle.signature_codec.proofs.spelling.append_indices.Given as goal

abbrev pub invariant-loop-glue : goal.invariant-loop-glue
invariant-loop-glue l = l.text.items ++ indices_text (drop l.glue-index l.gluings) ≡ l.fn.text.items ++ indices_text l.gluings

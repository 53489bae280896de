use Rattle.signature_laws.specs.Starts.{numbered_start}
use Rattle.signature_automorphism_laws.proofs.Marks.{lesser_has_none}
use Rattle.signature_automorphism_laws.proofs.smaller_texts_keep_no_smaller_text.Goals as goal

pub returns : goal.returns
returns c = λ rows text smaller marks b h i e. lesser_has_none rows text smaller (numbered_start i) b (h i e)

use Rattle.signature_codec.proofs.InputLaws.{other_word}
use Rattle.signature_codec.proofs.any.read_any.Goals as goal

pub returns : goal.returns
returns c = rw c.bad_word.ensures (λ other. other_word _ _ _ _ _ c.in_ok-word.ensures c.as_slice.ensures c.as_slice-2.ensures c.if-eq.ensures c.if-eq-2.ensures)

use Rattle.signature_automorphism_laws.specs.Automorphisms.{carried_number}
use Rattle.signature_automorphism_laws.proofs.Marks.{carried_has_no_lesser, marked_more}
use Rattle.signature_automorphism_laws.proofs.marks_keep_no_smaller_text.Goals as goal

pub returns : goal.returns
returns c = λ rows by text marks i table auto low here h. marked_more rows text marks (carried_number by i) (carried_has_no_lesser rows by auto i low text table here) h

use Rattle.signature_automorphism_laws.proofs.Carrying.{text_on, text_before}
use Rattle.signature_automorphism_laws.proofs.starts_carried_have_one_text.Goals as goal

pub returns : goal.returns
returns c = λ rows by start text table auto l hp. (λ t. text_on rows by start table auto l text t, λ t. text_before rows by start table auto l hp text t)

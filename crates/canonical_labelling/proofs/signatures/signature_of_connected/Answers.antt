use Rattle.std.proofs.Common.{arith}
use Rattle.std.proofs.lemmas.Result.{IfOk-weaker}
use Rattle.signature_laws.proofs.Least.{empty_signature, least_is_signature}
use Rattle.canonical_labelling.proofs.signatures.signature_of_connected.Goals as goal

pub returns-then-len-eq0 : goal.returns-then-len-eq0
returns-then-len-eq0 c = IfOk-weaker c.text_of.result _ _ (λ text spells. empty_signature c.args.table.now text.items (omega arith) spells) c.text_of.ensures

pub returns : goal.returns
returns c = IfOk-weaker c.least_text.result _ _ (λ text least. least_is_signature c.args.table.now text.items least) c.least_text.ensures

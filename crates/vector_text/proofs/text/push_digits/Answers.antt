-- The digits are the text of the eight numbers.
use Rattle.std.proofs.Common.{◌≡◌, ◌++◌, sym, subst}
use Rattle.std.specs.Prelude.{OnOk}
use Rattle.vector_text.proofs.EightLemmas.{digits_text}
use Rattle.vector_text.proofs.text.push_digits.Goals as goal

pub returns : goal.returns
returns c =
    subst (λ digits. OnOk c.append.result (c.append.new.out.items ≡ c.args.text.now.items ++ digits)) (sym (digits_text c.args.x.now c.type_inv.x.1.1.0.1 c.requires)) c.append.ensures.ok

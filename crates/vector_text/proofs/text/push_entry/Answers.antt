use Rattle.std.proofs.Common.{◌≡◌, ◌∷◌, ◌++◌, sym, subst}
use Rattle.std.specs.Prelude.{OnOk}
use Rattle.std.proofs.lemmas.Fmt.{decimal_digit}
use Rattle.vector_text.proofs.text.push_entry.Goals as goal

pub returns-then-entry-lt10 : goal.returns-then-entry-lt10
returns-then-entry-lt10 c =
    subst (λ digits. OnOk c.append.result (c.append.new.out.items ≡ c.args.text.now.items ++ 32 ∷ digits)) (sym (decimal_digit c.args.entry c.if-entry-lt10.true)) c.append.ensures.ok

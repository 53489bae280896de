-- The command that the first word names.
use Rattle.std.proofs.Common.{◌≡◌, ◌∙◌, List, [], ◌∷◌, Bor, Some, sym, ap}
use Rattle.std.specs.Prelude.{slice_get}
use Rattle.clap.specs.Walk.{Text, texts}
use Rattle.command_definitions.specs.Words.{command_named}
use Rattle.command_words.specs.Apps.{command_before}
use Rattle.basic_lemmas.proofs.Options.{some≢none}
use Rattle.command_words.proofs.program.command_before.Goals as goal

before : (ts : List (Bor Text)) (t : Bor Text) → Some t ≡ slice_get ts 0 → command_before (texts ts) ≡ command_named t.now
before [] t e = absurd (some≢none t e)
before (s ∷ ts) t e = (let same : t ≡ s = (let x : Some t ≡ Some s = e in cc) in ap (λ (r : Bor Text). command_named r.now) (sym same))

pub returns : goal.returns
returns c = c.command_among.ensures ∙ sym (before c.args.words.now c.in_ok-name.name.now c.in_ok-name.ensures.value)

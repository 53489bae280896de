use Rattle.std.proofs.Common.{◌∙◌, ◌∷◌, [], ◌++◌, ap, subst, take}
use Rattle.std.proofs.lemmas.List.{map-append}
use Rattle.clap.specs.Walk.{texts}
use Rattle.command_words.specs.Texts.{AreTexts}
use Rattle.command_words.proofs.WordLists.{one_more, texts_push}
use Rattle.command_words.proofs.reader.texts_of.Goals as goal

pub loop-i-preserved : goal.loop-i-preserved
loop-i-preserved c =
    let w = c.word.result.now in
    let more = one_more c.args.words.now c.loop-i.i w c.word.ensures in (
      ap texts (c.in_ok-push.ensures).items ∙ map-append (λ s. s.now) c.loop-i.texts.items (c.word.result ∷ [])
          ∙ ap (λ ws. ws ++ w ∷ []) c.loop-i.invariant.0 ∙ more,
      subst AreTexts more (texts_push (take c.loop-i.i c.args.words.now) w c.loop-i.invariant.1 c.word.utf8),
    )

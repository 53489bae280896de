use Rattle.std.proofs.Common.{◌∙◌, ap, sym}
use Rattle.clap.specs.Walk.{texts}
use Rattle.command_words.specs.Texts.{has_dashes, has_repeats}
use Rattle.command_words.proofs.DashedWords.{dashes_ask_nothing}
use Rattle.command_words.proofs.Repeats.{repeats_ask_nothing}
use Rattle.command_words.proofs.WordLists.{dashes-texts}
use Rattle.command_words.proofs.reader.read_request.Goals as goal

pub returns-then-has_dashes : goal.returns-then-has_dashes
returns-then-has_dashes c =
    let same = ap texts c.as_slice-texts.ensures.value ∙ c.in_ok-texts.ensures.texts in
    dashes_ask_nothing c.args.words.now
    (sym (ap has_dashes same) ∙ sym (dashes-texts c.as_slice-texts.result.now) ∙ sym c.has_dashes.ensures ∙ c.if-has_dashes.true)

pub returns-then-has_repeats : goal.returns-then-has_repeats
returns-then-has_repeats c =
    let same = ap texts c.as_slice-texts.ensures.value ∙ c.in_ok-texts.ensures.texts in
    repeats_ask_nothing c.args.words.now (sym (ap has_repeats same) ∙ sym c.has_repeats.ensures ∙ c.if-has_repeats.true)

pub parse-requires-clause-no_dashes : goal.parse-requires-clause-no_dashes
parse-requires-clause-no_dashes c = sym (dashes-texts c.as_slice-texts.result.now) ∙ sym c.has_dashes.ensures ∙ c.if-has_dashes.false

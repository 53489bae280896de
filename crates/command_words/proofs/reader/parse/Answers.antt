use Rattle.std.proofs.Common.{◌≡◌, ◌∙◌, ap, subst, sym, true, Some}
use Rattle.clap.specs.Values.{kind_of}
use Rattle.clap.specs.Walk.{texts}
use Rattle.clap.specs.Simple.{app_of}
use Rattle.clap.specs.Faults.{is_simple_and_free}
use Rattle.command_definitions.specs.Commands.{Command}
use Rattle.command_definitions.specs.Words.{accepted_request}
use Rattle.command_words.specs.Apps.{command_before, listed_command}
use Rattle.command_words.specs.Requests.{AnswersWords, FailsWords}
use Rattle.command_words.proofs.Asked.{ok_answers, err_answers, fault_answers, program_free}
use Rattle.command_words.proofs.WordLists.{are_words}
use Rattle.command_words.proofs.reader.parse.Goals as goal

pub returns-in-Ok : goal.returns-in-Ok
returns-in-Ok c =
    let words = texts c.args.words.now in
    let command : Command = listed_command (c.in-Some.name, c.in-Some.command) in
    let named : command_before words ≡ Some command = sym c.in-Some.ensures in
    let is = c.in_ok-program.ensures in
    let are = are_words words c.requires.no_dashes c.requires.utf8 in
    let free : is_simple_and_free (app_of c.in_ok-program.program) ≡ true = ap is_simple_and_free is ∙ program_free words command named in
    subst (AnswersWords c.request_or_usage.result) (ok_answers words command c.in-Ok.matches (app_of c.in_ok-program.program) named is are c.in-Ok.ensures.matches (c.in-Ok.ensures.kinds free)) c.request_or_usage.ensures

pub returns-in-Err : goal.returns-in-Err
returns-in-Err c =
    let words = texts c.args.words.now in
    let command : Command = listed_command (c.in-Some.name, c.in-Some.command) in
    let named : command_before words ≡ Some command = sym c.in-Some.ensures in
    let is = c.in_ok-program.ensures in
    let are = are_words words c.requires.no_dashes c.requires.utf8 in
    let free : is_simple_and_free (app_of c.in_ok-program.program) ≡ true = ap is_simple_and_free is ∙ program_free words command named in
    subst (λ f. FailsWords f (accepted_request words)) (sym c.fault_of.ensures)
    (fault_answers (kind_of c.in-Err.error) (accepted_request words)
    (err_answers words command c.in-Err.error (app_of c.in_ok-program.program) named is are (c.in-Err.ensures.kinds free)))

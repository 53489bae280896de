use Rattle.std.proofs.Common.{◌≡◌, List, subst}
use Rattle.std.specs.Prelude.{IfOk}
use Rattle.clap.specs.Walk.{Text, texts}
use Rattle.clap.specs.Simple.{App, app_of, with_subcommand}
use Rattle.command_words.specs.Apps.{bare_program, subcommand_with}
use Rattle.command_words.proofs.program.program_with.Goals as goal

pub returns : goal.returns
returns c =
    subst (λ (names : List Text). IfOk c.add.result (λ p. app_of p ≡ with_subcommand bare_program (subcommand_with c.args.name.now names))) c.option_names.ensures
    (subst (λ (a : App). IfOk c.add.result (λ p. app_of p ≡ with_subcommand a (subcommand_with c.args.name.now (texts c.option_names.result.now)))) c.bare_program.ensures c.add.ensures)

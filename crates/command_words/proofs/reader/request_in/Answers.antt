use Rattle.std.proofs.Common.{◌≡◌, ◌∙◌, List, Option, Some, None, sym, ap, true≢false, is_some}
use Rattle.std.specs.Option.{option_map}
use Rattle.std.specs.Prelude.{Box}
use Rattle.std.specs.Box.{box_value}
use Rattle.clap.specs.Walk.{Row, rows_of}
use Rattle.clap.specs.Matches.{found_of}
use Rattle.clap.specs.Simple.{subcommand_rows}
use Rattle.clap.specs.declared.parser.matches.SubCommand.{SubCommand}
use Rattle.clap.specs.declared.parser.matches.ArgMatches.TheViews.{out-SubCommand}
use Rattle.command_definitions.specs.Commands.{Takes}
use Rattle.command_definitions.specs.Values.{request_with}
use Rattle.command_words.specs.Apps.{request_in, takes_of, values_in}
use Rattle.command_words.proofs.reader.request_in.Goals as goal

-- the request by the rows of a subcommand
module _ {Z : Type 0} where
  by_rows : (takes : Takes) (o : Option (Box SubCommand Z)) (found : List Row) → Some found ≡ option_map (λ p. p.1) (subcommand_rows o)
      → request_in takes (subcommand_rows o) ≡ request_with takes (values_in found)
  by_rows takes None found f = absurd (true≢false (ap (λ x. is_some x) f))
  by_rows takes (Some b) found f =
      let same : found ≡ rows_of (found_of (out-SubCommand (box_value b)).matches) = (let x : Some found ≡ Some (rows_of (found_of (out-SubCommand (box_value b)).matches)) = f in cc) in
      ap (λ r. request_with takes (values_in r)) (sym same)

pub returns-in-Some : goal.returns-in-Some
returns-in-Some c = c.request_with.ensures ∙ ap (request_with (takes_of c.args.command)) c.values_in.ensures
    ∙ sym (by_rows (takes_of c.args.command) _ _ c.in-Some.ensures.rows)

use Rattle.std.proofs.Common.{◌≡◌, false, [], map, take}
use Rattle.clap.specs.Walk.{texts}
use Rattle.clap.specs.Simple.{App, app_of, new_shape}
use Rattle.clap.specs.declared.builder.command.Command.TheViews.{out-Command}
use Rattle.command_words.specs.Apps.{option_argument}
use Rattle.command_words.proofs.program.command.Given as goal

abbrev pub invariant-loop-option : goal.invariant-loop-option
invariant-loop-option l =
    (◌≡◌ {A = App} (app_of l.command) (record { top = record (new_shape l.name) { rules = map option_argument (take l.option-index (texts l.options)) }; subs = [] }))
    × ((out-Command l.command).has_globals ≡ false)

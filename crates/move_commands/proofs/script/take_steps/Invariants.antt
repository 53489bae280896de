-- The lines so far are those of the answers to the steps so far.
use Rattle.std.proofs.Common.{take}
use Rattle.move_commands.specs.Scripts.{all_steps, Plays}
use Rattle.move_commands.proofs.script.take_steps.Given as goal

abbrev pub invariant-loop-step : goal.invariant-loop-step
invariant-loop-step l = Plays l.fn.session (all_steps (take l.step-index l.steps)) l.session l.text.items

-- Each pass of the loop plays one step.
use Rattle.std.proofs.Common.{arith}
use Rattle.move_commands.proofs.ScriptLines.{plays-none, plays-more}
use Rattle.move_commands.proofs.script.take_steps.Goals as goal

pub loop-step-init : goal.loop-step-init
loop-step-init c = plays-none _ _ c.new-text.ensures.items

pub loop-step-preserved : goal.loop-step-preserved
loop-step-preserved c = plays-more _ _ _ c.args.steps.now c.loop-step.step-index c.step-item.result _ _ c.loop-step.invariant c.in_ok-take_step.ensures (omega arith) c.step-item.is

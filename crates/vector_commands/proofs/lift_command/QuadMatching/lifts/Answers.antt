-- One more lift is printed, or the vector is the first that is refused.
use Rattle.std.proofs.Common.{sym, subst}
use Rattle.cone_text_definitions.specs.VectorText.{vector_text}
use Rattle.surface_vector_definitions.specs.Answers.{IsLifted, IsFirstRefused}
use Rattle.command_answers.specs.Reads.{all_entries}
use Rattle.vector_commands.proofs.EachVector.{next_told, next_refused}
use Rattle.vector_commands.proofs.lift_command.QuadMatching.lifts.Goals as goal

pub returns-in-Err-Fault : goal.returns-in-Err-Fault
returns-in-Err-Fault c =
    subst (IsFirstRefused (IsLifted c.args.self.now.skeleton.now c.args.self.now.system.now.rows) (all_entries c.args.vectors.now) c.loop-v.v) (sym c.in-Err-Fault.refusal-is)
    (next_refused (IsLifted c.args.self.now.skeleton.now c.args.self.now.system.now.rows) vector_text c.args.vectors.now c.loop-v.v c.index-vectors-v.result c.deref.result.now c.loop-v.text.items
    c.append_lift.new.text.items c.loop-v-test.true c.index-vectors-v.is c.deref.ensures.value c.loop-v.invariant c.in-Err-Fault.field-0 c.in-Err-Fault.refusal c.in-Err-Fault.field-0-is c.in-Err-Fault.ensures)

pub loop-v-preserved : goal.loop-v-preserved
loop-v-preserved c =
    next_told (IsLifted c.args.self.now.skeleton.now c.args.self.now.system.now.rows) vector_text c.args.vectors.now c.loop-v.v c.index-vectors-v.result c.deref.result.now c.loop-v.text.items
    c.append_lift.new.text.items c.loop-v-test.true c.index-vectors-v.is c.deref.ensures.value c.loop-v.invariant tt c.in-Ok.ensures

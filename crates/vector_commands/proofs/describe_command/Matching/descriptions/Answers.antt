-- One more vector is described, or it is the first that is refused.
use Rattle.std.proofs.Common.{sym, subst}
use Rattle.surface_vector_definitions.specs.Texts.{description_text}
use Rattle.surface_vector_definitions.specs.Answers.{IsDescription, IsFirstRefused}
use Rattle.command_answers.specs.Reads.{all_entries}
use Rattle.vector_commands.proofs.EachVector.{next_told, next_refused}
use Rattle.vector_commands.proofs.describe_command.Matching.descriptions.Goals as goal

pub returns-in-Err-Fault : goal.returns-in-Err-Fault
returns-in-Err-Fault c =
    subst (IsFirstRefused (IsDescription c.args.self.now.skeleton.now c.args.self.now.coords.system c.args.self.now.system.now.rows) (all_entries c.args.vectors.now) c.loop-v.v) (sym c.in-Err-Fault.refusal-is)
    (next_refused (IsDescription c.args.self.now.skeleton.now c.args.self.now.coords.system c.args.self.now.system.now.rows) (description_text c.args.self.now.skeleton.now c.args.self.now.coords.system) c.args.vectors.now c.loop-v.v c.index-vectors-v.result
    c.deref.result.now c.loop-v.text.items c.append_vector_with_description.new.text.items c.loop-v-test.true c.index-vectors-v.is c.deref.ensures.value c.loop-v.invariant c.in-Err-Fault.field-0 c.in-Err-Fault.refusal c.in-Err-Fault.field-0-is c.in-Err-Fault.ensures)

pub loop-v-preserved : goal.loop-v-preserved
loop-v-preserved c =
    next_told (IsDescription c.args.self.now.skeleton.now c.args.self.now.coords.system c.args.self.now.system.now.rows) (description_text c.args.self.now.skeleton.now c.args.self.now.coords.system) c.args.vectors.now c.loop-v.v c.index-vectors-v.result
    c.deref.result.now c.loop-v.text.items c.append_vector_with_description.new.text.items c.loop-v-test.true c.index-vectors-v.is c.deref.ensures.value c.loop-v.invariant tt c.in-Ok.ensures

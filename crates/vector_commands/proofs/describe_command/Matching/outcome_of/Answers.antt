-- The vectors are described, or the outcome names the first that is refused.
use Rattle.std.proofs.Common.{Err, subst}
use Rattle.out_of_memory.specs.declared.Failure.{Failure}
use Rattle.surface_vector_definitions.specs.Answers.{IsDescription}
use Rattle.surface_vector_definitions.specs.Texts.{description_text}
use Rattle.vector_commands.specs.Telling.{WritesAnswers}
use Rattle.vector_commands.specs.declared.refusals.FirstRefusal.{FirstRefusal}
use Rattle.std.proofs.lemmas.Result.{IfOk-weaker}
use Rattle.command_answers.specs.Reads.{all_entries}
use Rattle.vector_commands.proofs.DescribeAnswers.{described_told, describe_refused}
use Rattle.vector_commands.proofs.DiscEquations.{equations_of}
use Rattle.vector_commands.proofs.describe_command.Matching.outcome_of.Goals as goal

pub returns-in-Ok : goal.returns-in-Ok
returns-in-Ok c =
    described_told c.args.self.now.skeleton.now c.args.self.now.coords.system c.args.self.now.system.now.rows (all_entries c.args.vectors.now) c.with_text.result
    (equations_of c.args.self.now.coords.system c.args.self.now.skeleton.now.rows c.args.self.now.system.now.rows c.args.self.now.coords.triangles c.args.self.now.equations) c.in-Ok.text.items c.in-Ok.ensures c.with_text.ensures

pub returns-in-Err-Fault : goal.returns-in-Err-Fault
returns-in-Err-Fault c =
    IfOk-weaker c.refusal_outcome.result _ _
    (λ o h. describe_refused c.args.self.now.skeleton.now c.args.self.now.coords.system c.args.self.now.system.now.rows (all_entries c.args.vectors.now) o
    (equations_of c.args.self.now.coords.system c.args.self.now.skeleton.now.rows c.args.self.now.system.now.rows c.args.self.now.coords.triangles c.args.self.now.equations) c.in-Err-Fault.first.vector c.in-Err-Fault.first.refusal
    (subst (λ (e : Failure FirstRefusal). WritesAnswers (IsDescription c.args.self.now.skeleton.now c.args.self.now.coords.system c.args.self.now.system.now.rows) (description_text c.args.self.now.skeleton.now c.args.self.now.coords.system) (all_entries c.args.vectors.now) (Err e)) c.in-Err-Fault.field-0-is c.in-Err-Fault.ensures) h)
    c.refusal_outcome.ensures

-- The text so far has the lifts of the vectors so far.
use Rattle.std.proofs.Common.{take}
use Rattle.cone_text_definitions.specs.VectorText.{vector_text}
use Rattle.command_answers.specs.Reads.{all_entries}
use Rattle.surface_vector_definitions.specs.Answers.{IsLifted}
use Rattle.vector_commands.specs.Telling.{AreAnsweredIn}
use Rattle.vector_commands.proofs.lift_command.QuadMatching.lifts.Given as goal

abbrev pub invariant-loop-v : goal.invariant-loop-v
invariant-loop-v l = AreAnsweredIn (IsLifted l.self.skeleton.now l.self.system.now.rows) vector_text (all_entries (take l.v l.vectors)) l.text.items

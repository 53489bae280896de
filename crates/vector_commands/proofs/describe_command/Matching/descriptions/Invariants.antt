-- The text so far has the lines of the vectors so far.
use Rattle.std.proofs.Common.{take}
use Rattle.surface_vector_definitions.specs.Texts.{description_text}
use Rattle.command_answers.specs.Reads.{all_entries}
use Rattle.surface_vector_definitions.specs.Answers.{IsDescription}
use Rattle.vector_commands.specs.Telling.{AreAnsweredIn}
use Rattle.vector_commands.proofs.describe_command.Matching.descriptions.Given as goal

abbrev pub invariant-loop-v : goal.invariant-loop-v
invariant-loop-v l = AreAnsweredIn (IsDescription l.self.skeleton.now l.self.coords.system l.self.system.now.rows) (description_text l.self.skeleton.now l.self.coords.system) (all_entries (take l.v l.vectors)) l.text.items

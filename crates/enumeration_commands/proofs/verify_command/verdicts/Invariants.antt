-- The text so far is that of the verdicts on the vectors so far.
use Rattle.std.proofs.Common.{◌≡◌, map, take}
use Rattle.surface_vector_definitions.specs.Answers.{verdict_in}
use Rattle.text_document_definitions.specs.Documents.{verdicts_text}
use Rattle.command_answers.specs.Reads.{all_entries}
use Rattle.enumeration_commands.proofs.verify_command.verdicts.Given as goal

abbrev pub invariant-loop-vector : goal.invariant-loop-vector
invariant-loop-vector l = l.text.items ≡ verdicts_text (map (verdict_in l.coords l.table l.system.rows) (all_entries (take l.vector-index l.vectors)))

-- the entries so far are appended
use Rattle.std.proofs.Common.{◌≡◌, ◌++◌, take}
use Rattle.cone_text_definitions.specs.VectorText.{entries_text}
use Rattle.vector_text.proofs.text.push_wide.Given as goal

abbrev pub invariant-loop-entry : goal.invariant-loop-entry
invariant-loop-entry l = l.text.items ≡ l.fn.text.items ++ entries_text (take l.entry-index l.x)

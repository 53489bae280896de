-- the lines so far are written after the text
use Rattle.std.proofs.Common.{◌≡◌, ◌++◌, take}
use Rattle.cone_text_definitions.specs.VectorText.{list_text}
use Rattle.vector_text.proofs.text.lines_after.Given as goal

abbrev pub invariant-loop-packed : goal.invariant-loop-packed
invariant-loop-packed l = l.text.items ≡ l.front ++ list_text (take l.packed-index l.list)

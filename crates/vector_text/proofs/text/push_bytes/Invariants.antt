-- with the entries that are left, the text is that of all
use Rattle.std.proofs.Common.{◌≡◌, ◌++◌, length}
use Rattle.cone_text_definitions.specs.VectorText.{entries_text}
use Rattle.vector_text.proofs.text.push_bytes.Given as goal

abbrev pub invariant-loop-eight : goal.invariant-loop-eight
invariant-loop-eight l = l.text.items ++ entries_text l.rest ≡ l.fn.text.items ++ entries_text l.x

abbrev pub decreases-loop-eight : goal.decreases-loop-eight
decreases-loop-eight l = length l.rest

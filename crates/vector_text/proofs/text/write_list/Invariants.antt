-- the lines so far are written
use Rattle.std.proofs.Common.{◌≡◌, take}
use Rattle.cone_text_definitions.specs.VectorText.{list_text}
use Rattle.vector_text.proofs.text.write_list.Given as goal

abbrev pub invariant-loop-ray : goal.invariant-loop-ray
invariant-loop-ray l = l.text.items ≡ list_text (take l.ray-index l.list)

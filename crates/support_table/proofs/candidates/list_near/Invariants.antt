use Rattle.support_table.proofs.ListLemmas.{AreListedTo}
use Rattle.support_table.proofs.candidates.list_near.Given as goal

abbrev pub invariant-loop-ray : goal.invariant-loop-ray
invariant-loop-ray l = AreListedTo l.chunk.search.rays.now l.chunk.search.outers.now l.chunk.chosen.now l.chunk.search.most l.chunk.part.now l.near l.ray-index l.lists.items

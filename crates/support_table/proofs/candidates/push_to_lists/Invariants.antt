use Rattle.std.proofs.Common.{◌≤◌, length, slice_index}
use Rattle.support_table.specs.Candidates.{ArePushedBelow}
use Rattle.support_table.proofs.BitLemmas.{AreBefore, AreFrom}
use Rattle.support_table.proofs.candidates.push_to_lists.Given as goal

abbrev pub invariant-loop-rest : goal.invariant-loop-rest
invariant-loop-rest l = record {
  within : l.bit ≤ length l.chunk.chosen.now;
  before : AreBefore l.bit 64 l.rest;
  left : AreFrom l.word l.bit l.rest;
  lists : ArePushedBelow l.chunk.search.rays.now.supports l.chunk.search.outers.now l.chunk.chosen.now l.chunk.search.most (slice_index l.chunk.part.now.places.items l.near.place) l.word l.bit l.initial.lists.items l.lists.items;
}

abbrev pub decreases-loop-rest : goal.decreases-loop-rest
decreases-loop-rest l = l.rest

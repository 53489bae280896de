-- the rays so far, with their supports
use Rattle.support_table.specs.Parts.{AreAllBelow, AreCopied}
use Rattle.support_table.proofs.part.Part.whole.Given as goal

abbrev pub invariant-loop-place : goal.invariant-loop-place
invariant-loop-place l = record {
  below : AreAllBelow l.place l.part.places.items;
  copied : AreCopied l.table l.part.places.items l.part.table;
}

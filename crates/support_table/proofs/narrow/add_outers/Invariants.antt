-- the columns of the rays, and of the outer rays so far, are marked
use Rattle.support_table.specs.Narrow.{AreColumnsMarked}
use Rattle.support_table.specs.Parts.{outer_at}
use Rattle.support_table.proofs.NarrowLoops.{AreMarkedBelow}
use Rattle.support_table.proofs.narrow.add_outers.Given as goal

abbrev pub invariant-loop-outer : goal.invariant-loop-outer
invariant-loop-outer l = record {
  rays : AreColumnsMarked l.search.rays.now.columns l.search.rays.now.supports l.words.items;
  outers : AreMarkedBelow l.search.rays.now.columns (λ k. (outer_at l.search.outers.now k).support) l.outer-index l.words.items;
}

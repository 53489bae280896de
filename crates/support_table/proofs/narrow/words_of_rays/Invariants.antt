-- the columns of the rays so far are marked
use Rattle.support_table.specs.Residuals.{support_at}
use Rattle.support_table.proofs.NarrowLoops.{AreMarkedBelow}
use Rattle.support_table.proofs.narrow.words_of_rays.Given as goal

abbrev pub invariant-loop-place : goal.invariant-loop-place
invariant-loop-place l = AreMarkedBelow l.rays.columns (support_at l.rays.supports) l.place l.words.items

-- the columns that the outer rays so far clash with
use Rattle.support_table.proofs.PartLemmas.{AreCommonTo}
use Rattle.support_table.proofs.parts.common_columns.Given as goal

abbrev pub invariant-loop-k : goal.invariant-loop-k
invariant-loop-k l = AreCommonTo l.search.outers.now l.chosen l.k-index l.search.rays.now.columns l.common.items

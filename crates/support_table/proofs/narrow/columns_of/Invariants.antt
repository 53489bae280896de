-- the columns so far that are marked
use Rattle.std.proofs.Common.{◌≡◌}
use Rattle.support_table.specs.Narrow.{columns_of}
use Rattle.support_table.proofs.narrow.columns_of.Given as goal

abbrev pub invariant-loop-column : goal.invariant-loop-column
invariant-loop-column l = l.used.items ≡ columns_of l.column l.words

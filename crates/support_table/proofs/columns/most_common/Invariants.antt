use Rattle.std.proofs.Common.{◌<◌}
use Rattle.std.specs.Prelude.{IfSome}
use Rattle.support_table.proofs.columns.most_common.Given as goal

abbrev pub invariant-loop-column : goal.invariant-loop-column
invariant-loop-column l = IfSome l.best (λ column. column < l.parting.search.rays.now.columns)

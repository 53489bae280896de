use Rattle.std.proofs.Common.{take}
use Rattle.lazy_columns.specs.Late.{AreLate}
use Rattle.lazy_columns.proofs.engine.all_rows.Given as goal

abbrev pub invariant-loop-number : goal.invariant-loop-number
invariant-loop-number g l = AreLate l.clashes.columns (take l.number l.system.rows) l.clashes.pairs l.late

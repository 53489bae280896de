use Rattle.std.proofs.Common.{◌≡◌, take}
use Rattle.lazy_columns.specs.Late.{AreSeen, HaveEntered}
use Rattle.lazy_columns.proofs.entering.enter_row.Given as goal

abbrev pub invariant-loop-column : goal.invariant-loop-column
invariant-loop-column l = record {
  columns : l.late.columns ≡ l.initial.late.columns;
  entered : HaveEntered l.initial.late.columns l.initial.late l.late;
  seen : AreSeen l.late.seen.items (take l.column-index l.column-items);
}

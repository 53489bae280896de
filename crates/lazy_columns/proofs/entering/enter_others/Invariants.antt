use Rattle.std.proofs.Common.{◌≡◌, take}
use Rattle.lazy_columns.specs.Late.{IsUnseen, HaveEntered}
use Rattle.lazy_columns.specs.Fresh.{IsLone}
use Rattle.lazy_columns.proofs.entering.enter_others.Given as goal

abbrev pub invariant-loop-other : goal.invariant-loop-other
invariant-loop-other l = record {
  columns : l.late.columns ≡ l.initial.late.columns;
  entered : HaveEntered l.initial.late.columns l.initial.late l.late;
  lone : IsLone (take l.other-index l.other-items) l.late.seen.items l.column;
  unseen : IsUnseen l.late.seen.items l.column;
}

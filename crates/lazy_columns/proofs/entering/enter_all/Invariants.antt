use Rattle.std.proofs.Common.{◌≡◌, ℕ, ◌<◌, slice_index_or, true}
use Rattle.lazy_columns.specs.Late.{HaveEntered}
use Rattle.lazy_columns.proofs.entering.enter_all.Given as goal

abbrev pub invariant-loop-column : goal.invariant-loop-column
invariant-loop-column l = record {
  columns : l.late.columns ≡ l.initial.late.columns;
  entered : HaveEntered l.initial.late.columns l.initial.late l.late;
  seen : (j : ℕ) → j < l.column → slice_index_or l.late.seen.items j true ≡ true;
}

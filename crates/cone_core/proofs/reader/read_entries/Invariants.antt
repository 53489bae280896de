-- the coefficients so far, followed by those of the columns that are left, are those of all columns
use Rattle.std.proofs.Common.{◌≡◌, ◌-◌}
use Rattle.cone_text_definitions.specs.ConeText.{coefficients_at}
use Rattle.cone_arithmetic.specs.Sparse.{IsSparse, IsInRange}
use Rattle.cone_core.specs.ConeReads.{sparse_entries_at}
use Rattle.cone_core.proofs.ConeLemmas.{with_entries}
use Rattle.cone_core.proofs.reader.read_entries.Given as goal

abbrev pub invariant-loop-column : goal.invariant-loop-column
invariant-loop-column l = record {
  reads : with_entries l.entries.items l.column (coefficients_at (l.columns - l.column) l.lexer) ≡ sparse_entries_at l.columns l.fn.lexer;
  is_sparse : IsSparse l.entries.items;
  in_range : IsInRange l.column l.entries.items;
}

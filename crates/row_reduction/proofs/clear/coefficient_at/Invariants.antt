-- the terms so far are of columns before this one
use Rattle.row_reduction.proofs.ColumnLemmas.{AreBefore}
use Rattle.row_reduction.proofs.clear.coefficient_at.Given as goal

abbrev pub invariant-loop-place : goal.invariant-loop-place
invariant-loop-place l = AreBefore l.place-items l.place-index l.column

-- the best index of the rows so far
use Rattle.row_reduction.specs.Eliminating.{IsPivotBelow}
use Rattle.row_reduction.proofs.blocks.pivot_place.Given as goal

abbrev pub invariant-loop-place : goal.invariant-loop-place
invariant-loop-place l = IsPivotBelow l.column l.rows l.place l.best

-- the index is within the terms
use Rattle.std.proofs.Common.{length, ◌-◌, ◌≤◌}
use Rattle.row_reduction.proofs.thin.place_from.Given as goal

abbrev pub invariant-loop-place : goal.invariant-loop-place
invariant-loop-place l = l.place ≤ length l.terms

abbrev pub decreases-loop-place : goal.decreases-loop-place
decreases-loop-place l = length l.terms - l.place

-- The rows so far.
use Rattle.std.proofs.Common.{◌≡◌, take, [], map}
use Rattle.std.specs.List.{slice_index_or}
use Rattle.pachner_moves.proofs.moving.saved_rows.Given as goal

abbrev pub invariant-loop-number : goal.invariant-loop-number
invariant-loop-number l = l.rows.items ≡ map (λ t. (t, slice_index_or l.table t [])) (take l.number-index l.numbers)

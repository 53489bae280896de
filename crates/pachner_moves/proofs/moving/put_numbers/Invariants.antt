-- The numbers so far.
use Rattle.std.proofs.Common.{◌≡◌}
use Rattle.std.specs.List.{range_with_len}
use Rattle.pachner_moves.proofs.moving.put_numbers.Given as goal

abbrev pub invariant-loop-label : goal.invariant-loop-label
invariant-loop-label l = l.numbers.items ≡ range_with_len l.first l.label

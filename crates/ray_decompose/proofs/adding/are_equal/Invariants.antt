use Rattle.std.proofs.Common.{◌≡◌, ◌+◌, take}
use Rattle.sum_definitions.specs.Adding.{sum_at}
use Rattle.ray_decompose.specs.Sums.{terms_of}
use Rattle.ray_decompose.proofs.adding.are_equal.Given as goal

abbrev pub invariant-loop-term : goal.invariant-loop-term
invariant-loop-term l = l.sum ≡ sum_at (terms_of (take l.term-index l.column.terms.now)) l.column.index + l.left

use Rattle.std.proofs.Common.{◌≡◌}
use Rattle.quad_condition.proofs.Pairs.{pairs_before}
use Rattle.quad_condition.proofs.clashes.clash_list.Given as goal

abbrev pub invariant-loop-first : goal.invariant-loop-first
invariant-loop-first l = l.clashes.items ≡ pairs_before l.coords l.tets l.first

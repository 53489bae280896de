use Rattle.std.proofs.Common.{◌≡◌, ◌++◌}
use Rattle.quad_condition.proofs.Pairs.{partners_before}
use Rattle.quad_condition.proofs.clashes.push_partners.Given as goal

abbrev pub invariant-loop-second : goal.invariant-loop-second
invariant-loop-second l = l.clashes.items ≡ l.fn.clashes.items ++ partners_before l.space.coords l.first l.second

use Rattle.std.proofs.Common.{◌≡◌, None}
use Rattle.std.specs.List.{find}
use Rattle.surface_definitions.specs.Verdict.{both_nonzero}
use Rattle.quad_condition.proofs.Pairs.{partners_before}
use Rattle.quad_condition.proofs.clashes.first_clashing.Given as goal

abbrev pub invariant-loop-second : goal.invariant-loop-second
invariant-loop-second l = find (both_nonzero l.x) (partners_before l.space.coords l.first l.second) ≡ None

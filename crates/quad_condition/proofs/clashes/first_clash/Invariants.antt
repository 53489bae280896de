use Rattle.std.proofs.Common.{◌≡◌, None}
use Rattle.std.specs.List.{find}
use Rattle.surface_definitions.specs.Verdict.{both_nonzero}
use Rattle.quad_condition.proofs.Pairs.{pairs_before}
use Rattle.quad_condition.proofs.clashes.first_clash.Given as goal

abbrev pub invariant-loop-first : goal.invariant-loop-first
invariant-loop-first l = find (both_nonzero l.x) (pairs_before l.coords l.tets l.first) ≡ None

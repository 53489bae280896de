-- The signatures at the indices so far are equal.
use Rattle.component_signature.proofs.Agreeing.{AgreeUpTo}
use Rattle.component_signature.proofs.matches.agree.Given as goal

abbrev pub invariant-loop-place : goal.invariant-loop-place
invariant-loop-place l = AgreeUpTo l.first l.second l.place

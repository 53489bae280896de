use Rattle.std.proofs.lemmas.Nat.Gcd.{IsGcd-from_mod}
use Rattle.cone_arithmetic.proofs.numbers.gcd.Goals as goal

pub loop-smaller-preserved : goal.loop-smaller-preserved
loop-smaller-preserved c g h = c.loop-smaller.invariant g (IsGcd-from_mod _ _ g h)

pub returns : goal.returns
returns c = c.loop-smaller.invariant _ c.gcd_with_small.ensures

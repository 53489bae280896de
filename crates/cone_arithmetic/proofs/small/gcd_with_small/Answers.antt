use Rattle.std.proofs.lemmas.Nat.Gcd.{IsGcd-from_mod}
use Rattle.cone_arithmetic.proofs.small.gcd_with_small.Goals as goal

pub returns-then-a-le-MAX_SMALL : goal.returns-then-a-le-MAX_SMALL
returns-then-a-le-MAX_SMALL c = rw c.from.ensures c.gcd_of_small.ensures

pub returns : goal.returns
returns c = rw c.from-3.ensures (IsGcd-from_mod _ _ _ (rw c.from-2.ensures at c.gcd_of_small-2.ensures))

use Rattle.std.proofs.Common.{arith}
use Rattle.std.proofs.lemmas.Nat.Bits.{bit_at_ones}
use Rattle.support_table.proofs.NearLemmas.{ones_below, shifted_one}
use Rattle.support_table.proofs.near.low_bits.Goals as goal

pub returns-then-count-ge64 : goal.returns-then-count-ge64
returns-then-count-ge64 c b less = (λ _. omega (arith, less, c.if-count-ge64.true), λ _. bit_at_ones 64 b less)

pub returns-else-count-ge64 : goal.returns-else-count-ge64
returns-else-count-ge64 c b less = let e = shifted_one c.args.count c.if-count-ge64.false in rw e (ones_below c.args.count b)

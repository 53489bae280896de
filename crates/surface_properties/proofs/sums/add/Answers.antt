-- A sum that exceeds the greatest number of 128 bits exceeds the limit too.
use Rattle.std.proofs.Common.{arith}
use Rattle.surface_properties.specs.Capped.{capped}
use Rattle.surface_properties.proofs.sums.add.Goals as goal

pub returns : goal.returns
unfolding capped
returns c = grind (arith, c.min.ensures, c.saturating_add.ensures)

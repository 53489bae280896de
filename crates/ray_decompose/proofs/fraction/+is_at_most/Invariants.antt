use Rattle.std.proofs.Common.{◌+◌}
use Rattle.ray_decompose.proofs.fraction.+is_at_most.Given as goal

abbrev pub decreases-is_at_most : goal.decreases-is_at_most
decreases-is_at_most l = l.first.denominator + l.second.denominator

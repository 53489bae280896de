use Rattle.std.proofs.Common.{Contains}
use Rattle.std.specs.List.{All}
use Rattle.support_table.proofs.columns.sample_of.Given as goal

abbrev pub invariant-loop-i : goal.invariant-loop-i
invariant-loop-i l = All (Contains l.chosen) l.sample.items

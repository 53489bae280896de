use Rattle.std.proofs.Common.{Contains}
use Rattle.std.specs.List.{All}
use Rattle.support_table.proofs.parts.chosen_by.Given as goal

abbrev pub invariant-loop-k : goal.invariant-loop-k
invariant-loop-k l = All (Contains l.chosen) l.part.items

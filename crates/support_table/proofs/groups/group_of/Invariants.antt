use Rattle.support_table.specs.Groups.{IsColumnOutside}
use Rattle.support_table.proofs.groups.group_of.Given as goal

abbrev pub invariant-loop-k : goal.invariant-loop-k
invariant-loop-k l = IsColumnOutside l.words l.outer l.group

use Rattle.support_table.specs.Groups.{AreRanges}
use Rattle.support_table.proofs.groups.fill_ranges.Given as goal

abbrev pub invariant-loop-k : goal.invariant-loop-k
invariant-loop-k l = AreRanges l.list.list.now l.list.groups l.k l.ranges

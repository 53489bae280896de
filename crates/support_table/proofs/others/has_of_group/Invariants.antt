use Rattle.std.proofs.Common.{ℕ, ◌<◌, ◌≤◌, get_or}
use Rattle.support_table.specs.Groups.{IsOtherInside}
use Rattle.support_table.proofs.others.has_of_group.Given as goal

abbrev pub invariant-loop-k : goal.invariant-loop-k
invariant-loop-k l = (k : ℕ) → get_or l.family.ranges.now.starts.items l.group 0 ≤ k → k < l.k → ¬ IsOtherInside l.family.table.now.supports l.family.outer.now l.family.list.now l.place k

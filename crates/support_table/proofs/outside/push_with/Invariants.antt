-- the entries so far are appended
use Rattle.support_table.specs.Outside.{AreOutsidesPushed}
use Rattle.support_table.proofs.outside.push_with.Given as goal

abbrev pub invariant-loop-m : goal.invariant-loop-m
invariant-loop-m l = AreOutsidesPushed l.mask l.start l.m l.fn.table.items l.table.items

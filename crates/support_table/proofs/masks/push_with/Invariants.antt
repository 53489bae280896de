-- the entries so far are appended
use Rattle.support_table.specs.Masks.{AreMasksPushed}
use Rattle.support_table.proofs.masks.push_with.Given as goal

abbrev pub invariant-loop-m : goal.invariant-loop-m
invariant-loop-m l = AreMasksPushed l.mask l.start l.m l.fn.table.items l.table.items

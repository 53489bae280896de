-- the outer rays so far
use Rattle.std.proofs.Common.{◌≡◌, map, take}
use Rattle.support_table.specs.Narrow.{narrowed_outer}
use Rattle.support_table.proofs.narrow.narrowed_outers.Given as goal

abbrev pub invariant-loop-outer : goal.invariant-loop-outer
invariant-loop-outer l = l.outers.items ≡ map (narrowed_outer l.used) (take l.outer-index l.search.outers.now)

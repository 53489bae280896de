use Rattle.std.proofs.Common.{[], take}
use Rattle.edge_group.specs.Searches.{HasGrown, IsFaceOfSome}
use Rattle.edge_group.proofs.distances.next_level.Given as goal

abbrev pub invariant-loop-tet : goal.invariant-loop-tet
invariant-loop-tet l = HasGrown l.level.table.now (IsFaceOfSome (take l.tet-index l.level.tets.now)) l.distance l.fn.marks l.marks [] l.next.items

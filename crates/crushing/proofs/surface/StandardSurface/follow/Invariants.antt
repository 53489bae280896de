-- The gluing that was reached is one of the chain; each pass goes through a tetrahedron that is taken out.
use Rattle.crushing.proofs.Following.{IsFollowed, left_of}
use Rattle.crushing.proofs.surface.StandardSurface.follow.Given as goal

abbrev pub invariant-loop-reached : goal.invariant-loop-reached
invariant-loop-reached l = IsFollowed l.self.table.now l.self.entries.now l.start l.reached

abbrev pub decreases-loop-reached : goal.decreases-loop-reached
decreases-loop-reached l = left_of l.self.table.now l.self.entries.now l.start l.reached

use Rattle.std.proofs.Common.{◌≡◌, map, take}
use Rattle.skeleton_class_laws.specs.Rounds.{corner_at}
use Rattle.skeleton.proofs.corners.corners_of.Given as goal

abbrev pub invariant-loop-place : goal.invariant-loop-place
invariant-loop-place l = l.corners.items ≡ map corner_at (take l.place-index l.places)

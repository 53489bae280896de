use Rattle.std.specs.Prelude.{take}
use Rattle.move_definitions.specs.Moves.{PlaysAll}
use Rattle.sphere_certificate.proofs.checking.play_all.Given as goal

abbrev pub invariant-loop-i : goal.invariant-loop-i
invariant-loop-i l = PlaysAll l.initial.table (take l.i l.moves) l.table

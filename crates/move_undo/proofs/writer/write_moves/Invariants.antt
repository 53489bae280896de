-- A line for each move so far.
use Rattle.std.proofs.Common.{◌≡◌, ◌++◌, take}
use Rattle.std.specs.List.{flat_map}
use Rattle.move_definitions.specs.MoveText.{move_text}
use Rattle.move_undo.proofs.writer.write_moves.Given as goal

abbrev pub invariant-loop-m : goal.invariant-loop-m
invariant-loop-m l = l.out.items ≡ l.initial.out.items ++ flat_map move_text (take l.m-index l.moves)

-- The number of the tetrahedron has 32 bits.
use Rattle.std.proofs.Common.{◌≤◌, arith}
use Rattle.move_undo.proofs.Words.{number_within}
use Rattle.move_undo.proofs.reader.read_kind.Goals as goal

pub overflow_cast-tet : goal.overflow_cast-tet
overflow_cast-tet c = let within : c.in_ok-tet.field-0 ≤ c.from.result = number_within _ c.args.lexer.now _ _ c.in_ok-tet.ensures in grind arith

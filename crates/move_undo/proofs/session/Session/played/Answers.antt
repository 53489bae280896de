-- At most as many moves are played as the session has.
use Rattle.std.proofs.Common.{◌≤◌, length, arith}
use Rattle.move_undo.proofs.RecordLaws.{recorded-most}
use Rattle.move_undo.proofs.session.Session.played.Goals as goal

pub overflow_cast-result : goal.overflow_cast-result
overflow_cast-result c =
    let most : length c.self.inside.undos.items ≤ length c.self.inside.moves.items = recorded-most _ _ _ _ c.self.invariant.recorded in
    let limited = c.self.invariant.limited in
    let same = c.len.ensures in
    grind arith

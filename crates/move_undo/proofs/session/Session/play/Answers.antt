-- A move that is accepted is recorded, and one that is refused changes nothing.
use Rattle.std.proofs.Common.{◌≡◌, ◌≤◌, ◌<◌, ◌+◌, length, refl, ap, arith, ◌∙◌, subst}
use Rattle.std.specs.Prelude.{List, vec_capacity}
use Rattle.std.proofs.lemmas.List.{length_push}
use Rattle.std.proofs.lemmas.Result.{err_from_is_err_and}
use Rattle.move_definitions.specs.Moves.{Move}
use Rattle.move_definitions.specs.Undos.{Undo}
use Rattle.move_definitions.specs.Sessions as sessions
use Rattle.move_undo.proofs.RecordLaws.{recorded-most, recorded-play, recorded-table, recorded-as, first-as, played-back, moves-after, records-after, length-after}
use Rattle.move_undo.proofs.session.Session.play.Goals as goal

pub overflow_sub-len : goal.overflow_sub-len
overflow_sub-len c =
    let most : length c.self.inside.undos.items ≤ length c.self.inside.moves.items = recorded-most _ _ _ _ c.self.invariant.recorded in
    let same = c.in_ok-reserve.ensures.len in
    let moves = c.self.inside.moves.ok in
    let undos = c.self.inside.undos.ok in
    let a = c.len-2.ensures in
    let b = c.len-3.ensures in
    grind arith

pub returns-in_err-undo-clause-fault : goal.returns-in_err-undo-clause-fault
returns-in_err-undo-clause-fault c =
    let p = err_from_is_err_and c.from_residual-in_err-undo.result c.from_residual-in_err-undo.ensures.1 in
    let fault = c.in_err-undo.ensures.fault in
    let here = subst (λ (s : sessions.Session). sessions.IsTableOf s c.self.inside.table) c.self.view_is (recorded-table _ _ _ _ c.self.invariant.recorded) in
    rw (p.1, p.2) (λ e. (_, refl, (c.self.inside.table, here, fault)))

pub keep-requires-clause-most : goal.keep-requires-clause-most
keep-requires-clause-most c =
    let most : length c.self.inside.undos.items ≤ length c.self.inside.moves.items = recorded-most _ _ _ _ c.self.invariant.recorded in
    let moves : length c.reserve.new.self.items ≡ length c.self.inside.moves.items = ap (λ (ms : List Move). length ms) c.in_ok-reserve.ensures.items in
    let undos : length c.reserve-2.new.self.items ≡ length c.self.inside.undos.items = ap (λ (us : List Undo). length us) c.in_ok-reserve-2.ensures.items in
    omega arith

pub invariant_of-self-2 : goal.invariant_of-self-2
invariant_of-self-2 c =
    let most : length c.self.inside.undos.items ≤ length c.self.inside.moves.items = recorded-most _ _ _ _ c.self.invariant.recorded in
    let moves = moves-after c.self.inside.moves.items _ c.keep.new.moves.items c.self.inside.undos.items _ c.args.m c.in_ok-reserve.ensures.items c.in_ok-reserve-2.ensures.items c.keep.ensures.moves in
    let undos = records-after c.self.inside.undos.items _ c.keep.new.undos.items c.in_ok-undo.undo c.in_ok-reserve-2.ensures.items c.keep.ensures.undos in
    let back = played-back c.self.inside.undos.items _ _ _ _ c.in_ok-undo.ensures.played in
    let longer : length c.keep.new.moves.items ≡ length c.self.inside.undos.items + 1 = length-after _ _ _ c.args.m most moves in
    let test = c.if-len.false in
    let played = c.len.ensures in
    let kept = c.self.inside.undos.ok in
    let limited : length c.self.inside.undos.items + 1 < 4294967296 = grind arith in
    let same = c.in_ok-reserve-2.ensures.len in
    let reserved = c.in_ok-reserve-2.ensures.ok in
    let room : length c.self.inside.undos.items + 1 ≤ vec_capacity c.keep.new.undos = grind (arith, c.keep.ensures.room) in
    record {
      recorded = recorded-as _ _ _ _ _ _ moves undos back (recorded-play _ _ _ _ c.args.m _ _ c.self.invariant.recorded c.in_ok-undo.ensures.played);
      limited = omega arith;
      room = omega arith;
    }

pub returns-clause-accepted : goal.returns-clause-accepted
returns-clause-accepted c =
    let here = subst (λ (s : sessions.Session). sessions.IsTableOf s c.self.inside.table) c.self.view_is (recorded-table _ _ _ _ c.self.invariant.recorded) in
    (c.self.inside.table, here, c.in_ok-undo.ensures.played.plays.accepted)

pub returns-clause-played : goal.returns-clause-played
returns-clause-played c =
    let moves = moves-after c.self.inside.moves.items _ c.keep.new.moves.items c.self.inside.undos.items _ c.args.m c.in_ok-reserve.ensures.items c.in_ok-reserve-2.ensures.items c.keep.ensures.moves in
    let undos = records-after c.self.inside.undos.items _ c.keep.new.undos.items c.in_ok-undo.undo c.in_ok-reserve-2.ensures.items c.keep.ensures.undos in
    let first = first-as _ _ _ _ undos (played-back c.self.inside.undos.items _ _ _ _ c.in_ok-undo.ensures.played) in
    let longer : length c.keep.new.undos.items ≡ length c.self.inside.undos.items + 1 = ap (λ (us : List Undo). length us) undos ∙ length_push c.self.inside.undos.items c.in_ok-undo.undo in
    (λ i. record { first = first i; moves = moves i; played = longer i }) ∙ ap (λ (s : sessions.Session). sessions.with_move s c.args.m) c.self.view_is

-- The move can be played again, and there is room for its record.
use Rattle.std.proofs.Common.{◌≡◌, ◌≤◌, ◌<◌, ◌+◌, length, ap, arith, refl, ◌∙◌, subst, sym}
use Rattle.std.specs.Prelude.{List, [], ◌∷◌, ◌++◌}
use Rattle.std.proofs.lemmas.List.{length_push}
use Rattle.move_definitions.specs.Sessions as sessions
use Rattle.move_definitions.specs.Undos.{Undo}
use Rattle.move_undo.proofs.RecordLaws.{next_move, recorded-most, recorded-free, recorded-again, played-back, recorded-as, first-as}
use Rattle.move_undo.proofs.session.Session.redo.Goals as goal

pub index-requires : goal.index-requires
index-requires c =
    let most : length c.self.inside.undos.items ≤ length c.self.inside.moves.items = recorded-most _ _ _ _ c.self.invariant.recorded in
    let long = c.self.inside.moves.ok in
    let kept = c.self.inside.undos.ok in
    let test = c.if-next-len.false in
    let next = c.len-next.ensures in
    let all = c.len.ensures in
    grind arith

pub replay-undo-requires : goal.replay-undo-requires
replay-undo-requires c =
    let most : length c.self.inside.undos.items ≤ length c.self.inside.moves.items = recorded-most _ _ _ _ c.self.invariant.recorded in
    let next : c.len-next.result ≡ length c.self.inside.undos.items = c.len-next.ensures ∙ c.self.inside.undos.ok.0 in
    let all : c.len.result ≡ length c.self.inside.moves.items = c.len.ensures ∙ c.self.inside.moves.ok.0 in
    let test = c.if-next-len.false in
    let within : c.len-next.result < length c.self.inside.moves.items = grind arith in
    recorded-free _ _ _ _ _ c.self.invariant.recorded (next_move _ _ c.index.result.now _ within next c.index.ensures)

pub push_reserved-requires : goal.push_reserved-requires
push_reserved-requires c =
    let most : length c.self.inside.undos.items ≤ length c.self.inside.moves.items = recorded-most _ _ _ _ c.self.invariant.recorded in
    let next : c.len-next.result ≡ length c.self.inside.undos.items = c.len-next.ensures ∙ c.self.inside.undos.ok.0 in
    let all : c.len.result ≡ length c.self.inside.moves.items = c.len.ensures ∙ c.self.inside.moves.ok.0 in
    let kept = c.self.inside.undos.ok in
    let room = c.self.invariant.room in
    let test = c.if-next-len.false in
    grind arith

pub invariant_of-self : goal.invariant_of-self
invariant_of-self c =
    let most : length c.self.inside.undos.items ≤ length c.self.inside.moves.items = recorded-most _ _ _ _ c.self.invariant.recorded in
    let next : c.len-next.result ≡ length c.self.inside.undos.items = c.len-next.ensures ∙ c.self.inside.undos.ok.0 in
    let all : c.len.result ≡ length c.self.inside.moves.items = c.len.ensures ∙ c.self.inside.moves.ok.0 in
    let test = c.if-next-len.false in
    let within : c.len-next.result < length c.self.inside.moves.items = grind arith in
    let back = played-back c.self.inside.undos.items _ _ _ _ c.replay-undo.ensures in
    let again = recorded-again _ _ _ _ _ _ _ c.self.invariant.recorded (next_move _ _ c.index.result.now _ within next c.index.ensures) c.replay-undo.ensures in
    record {
      recorded = recorded-as _ c.self.inside.moves.items _ (c.self.inside.undos.items ++ c.replay-undo.result ∷ []) _ _ refl c.push_reserved.ensures.items back again;
      limited = c.self.invariant.limited;
      room = subst (λ k. length c.self.inside.moves.items ≤ k) (sym c.push_reserved.ensures.capacity) c.self.invariant.room;
    }

pub returns-clause-redone : goal.returns-clause-redone
returns-clause-redone c =
    let most : length c.self.inside.undos.items ≤ length c.self.inside.moves.items = recorded-most _ _ _ _ c.self.invariant.recorded in
    let next : c.len-next.result ≡ length c.self.inside.undos.items = c.len-next.ensures ∙ c.self.inside.undos.ok.0 in
    let all : c.len.result ≡ length c.self.inside.moves.items = c.len.ensures ∙ c.self.inside.moves.ok.0 in
    let test = c.if-next-len.false in
    let more : length c.self.inside.undos.items < length c.self.inside.moves.items = grind arith in
    let back = first-as (c.self.inside.undos.items ++ c.replay-undo.result ∷ []) _ _ _ c.push_reserved.ensures.items (played-back c.self.inside.undos.items _ _ _ _ c.replay-undo.ensures) in
    let longer : length c.push_reserved.new.self.items ≡ length c.self.inside.undos.items + 1 =
    ap (λ (us : List Undo). length us) c.push_reserved.ensures.items ∙ length_push c.self.inside.undos.items c.replay-undo.result in (
      subst (λ (s : sessions.Session). s.played < length s.moves) c.self.view_is more,
      (λ i. record { first = back i; moves = c.self.inside.moves.items; played = longer i }) ∙ ap (λ (s : sessions.Session). sessions.one_more s) c.self.view_is,
    )

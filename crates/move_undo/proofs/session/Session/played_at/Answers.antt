-- A played move is one of the session's.
use Rattle.std.proofs.Common.{◌≡◌, ◌≤◌, ◌<◌, length, ap, arith, subst, refl}
use Rattle.std.specs.Prelude.{slice_get, Some}
use Rattle.std.proofs.lemmas.Option.{slice_get_read}
use Rattle.move_definitions.specs.Sessions as sessions
use Rattle.move_undo.proofs.RecordLaws.{recorded-most}
use Rattle.move_undo.proofs.session.Session.played_at.Goals as goal

pub index-requires : goal.index-requires
index-requires c =
    let most : length c.self.inside.undos.items ≤ length c.self.inside.moves.items = recorded-most _ _ _ _ c.self.invariant.recorded in
    let played : length c.self.inside.undos.items ≡ c.args.self.now.played = ap (λ (s : sessions.Session). s.played) c.self.view_is in
    let long = c.self.inside.moves.ok in
    let r = c.requires in
    omega arith

pub returns : goal.returns
returns c =
    let most : length c.self.inside.undos.items ≤ length c.self.inside.moves.items = recorded-most _ _ _ _ c.self.invariant.recorded in
    let played : length c.self.inside.undos.items ≡ c.args.self.now.played = ap (λ (s : sessions.Session). s.played) c.self.view_is in
    let within : c.args.i < length c.self.inside.moves.items = omega (arith, c.requires) in
    subst (λ (s : sessions.Session). slice_get s.moves c.args.i ≡ Some c.index.result.now) c.self.view_is (slice_get_read c.self.inside.moves.items _ c.args.i c.index.result.now refl within c.index.ensures)

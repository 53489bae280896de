-- The record of the last move undoes it.
use Rattle.std.proofs.Common.{◌≡◌, ◌≤◌, ◌<◌, ◌+◌, ◌-◌, length, ap, arith, refl, ◌∙◌, subst, sym}
use Rattle.std.specs.Prelude.{List}
use Rattle.std.proofs.lemmas.List.{length_push}
use Rattle.table_definitions.specs.Table.{Row}
use Rattle.move_definitions.specs.Sessions as sessions
use Rattle.move_definitions.specs.Undos.{Undo}
use Rattle.move_undo.specs.Records.{first_table, Recorded}
use Rattle.move_undo.proofs.RecordLaws.{recorded-last, recorded-as, first-last}
use Rattle.move_undo.proofs.session.Session.undo.Goals as goal

pub take_back-requires : goal.take_back-requires
take_back-requires c = (recorded-last _ _ _ _ _ _ c.in-Some.ensures.items c.self.invariant.recorded).can

pub invariant_of-self-2 : goal.invariant_of-self-2
invariant_of-self-2 c =
    let back = recorded-last _ _ _ _ _ _ c.in-Some.ensures.items c.self.invariant.recorded in
    let recorded : Recorded (first_table c.self.inside.undos.items c.self.inside.table) c.self.inside.moves.items c.pop.new.self.items c.take_back.new.table =
    subst (λ (t : List Row). Recorded (first_table c.self.inside.undos.items c.self.inside.table) c.self.inside.moves.items c.pop.new.self.items t) (sym c.take_back.ensures.former) back.recorded in
    record {
      recorded = recorded-as _ c.self.inside.moves.items _ c.pop.new.self.items _ _ refl refl (first-last _ _ _ _ _ c.in-Some.ensures.items c.take_back.ensures.former) recorded;
      limited = c.self.invariant.limited;
      room = subst (λ k. length c.self.inside.moves.items ≤ k) (sym c.in-Some.ensures.capacity) c.self.invariant.room;
    }

pub returns-clause-undone : goal.returns-clause-undone
returns-clause-undone c =
    let longer : length c.self.inside.undos.items ≡ length c.pop.new.self.items + 1 =
    ap (λ (us : List Undo). length us) c.in-Some.ensures.items ∙ length_push c.pop.new.self.items c.in-Some.undo in
    let some : 0 < length c.self.inside.undos.items = omega arith in
    let less : length c.pop.new.self.items ≡ length c.self.inside.undos.items - 1 = omega arith in
    let first = first-last _ _ _ _ _ c.in-Some.ensures.items c.take_back.ensures.former in (
      subst (λ (s : sessions.Session). 0 < s.played) c.self.view_is some,
      (λ i. record { first = first i; moves = c.self.inside.moves.items; played = less i }) ∙ ap (λ (s : sessions.Session). sessions.one_less s) c.self.view_is,
    )

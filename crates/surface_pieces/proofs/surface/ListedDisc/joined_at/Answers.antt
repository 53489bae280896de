-- What the meeting arcs join.
use Rattle.std.proofs.Common.{◌≡◌, ℕ, ◌%◌, ◌<◌, IfNone, refl, sym, ap, ◌∙◌, subst, arith}
use Rattle.std.specs.Prelude.{sum}
use mathlib.Core.Bool.{beq}
use Rattle.surface_definitions.specs.Pieces.{NormalDisc, disc_of, disc_number}
use Rattle.surface_definitions.specs.Coordinates.{columns_each}
use Rattle.surface_definitions.specs.declared.Coords.{Coords}
use Rattle.surface_pieces.specs.Meetings.{HasNoMeeting}
use Rattle.surface_pieces.specs.Slots.{slot_vertex, vertex_of_slot}
use Rattle.surface_pieces.proofs.SlotsOfArcs.{place_low}
use Rattle.surface_pieces.proofs.MetArcs.{number_low, joined_is}
use Rattle.surface_pieces.proofs.surface.ListedDisc.joined_at.Goals as goal

pub invariant_of-corner_at : goal.invariant_of-corner_at
invariant_of-corner_at c =
    let low : c.piece.inside.column % columns_each c.args.self.now.pieces.surface.coords.system < 10 = place_low c.args.self.now.pieces.surface.coords.system c.piece.inside.column in
    record { a_place = omega (arith, c.place_of-place.ensures); a_slot = c.requires }

-- the vertex of the slot, by the column of the given piece
vertex_is : (coords : Coords) (column : ℕ) (p : NormalDisc) (place slot : ℕ) → column ≡ p.column → place ≡ column % columns_each coords → slot_vertex place slot ≡ vertex_of_slot coords p slot
vertex_is coords column p place slot e is = ap (λ k. slot_vertex k slot) (is ∙ ap (λ k. k % columns_each coords) e)

pub returns-in_err-corner-clause-none : goal.returns-in_err-corner-clause-none
returns-in_err-corner-clause-none c =
    subst (λ o. IfNone o (HasNoMeeting c.args.self.now.pieces.surface.table.now c.args.self.now.pieces.surface.coords.system c.args.self.now.pieces.surface.entries.now c.args.self.now.piece (c.args.slot % 4) (vertex_of_slot c.args.self.now.pieces.surface.coords.system c.args.self.now.piece c.args.slot))) (sym c.from_residual.ensures)
    (λ a h m ef ev e. m.off_vertex (ev ∙ sym (vertex_is c.args.self.now.pieces.surface.coords.system c.piece.inside.column c.args.self.now.piece c.place_of-place.result c.args.slot (ap (λ (p : NormalDisc). p.column) c.piece.view_is) c.place_of-place.ensures) ∙ c.in_err-corner.ensures.none ∙ sym ef))

pub returns-in_err-meeting-clause-none : goal.returns-in_err-meeting-clause-none
returns-in_err-meeting-clause-none c =
    subst (λ o. IfNone o (HasNoMeeting c.args.self.now.pieces.surface.table.now c.args.self.now.pieces.surface.coords.system c.args.self.now.pieces.surface.entries.now c.args.self.now.piece (c.args.slot % 4) (vertex_of_slot c.args.self.now.pieces.surface.coords.system c.args.self.now.piece c.args.slot))) (sym c.from_residual-in_err-meeting.ensures)
    (λ a h m ef ev e. c.in_err-meeting.ensures.none a h m (ef ∙ sym c.in_ok-corner.ensures.some.0) (ev ∙ sym (c.in_ok-corner.ensures.some.1 ∙ vertex_is c.args.self.now.pieces.surface.coords.system c.piece.inside.column c.args.self.now.piece c.place_of-place.result c.args.slot (ap (λ (p : NormalDisc). p.column) c.piece.view_is) c.place_of-place.ensures)) e)

pub invariant_of-result : goal.invariant_of-result
invariant_of-result c =
    let low : disc_number c.args.self.now.pieces.surface.entries.now (disc_of c.args.self.now.pieces.surface.coords.system c.args.self.now.pieces.surface.entries.now c.in_ok-meeting.meeting.other) < sum c.args.self.now.pieces.surface.entries.now = number_low c.args.self.now.pieces.surface.entries.now (disc_of c.args.self.now.pieces.surface.coords.system c.args.self.now.pieces.surface.entries.now c.in_ok-meeting.meeting.other) c.in_ok-meeting.ensures.some.other_piece in
    let same : c.number_of.result ≡ disc_number c.args.self.now.pieces.surface.entries.now (disc_of c.args.self.now.pieces.surface.coords.system c.args.self.now.pieces.surface.entries.now c.in_ok-meeting.meeting.other) = c.number_of.ensures ∙ ap (λ (p : NormalDisc). disc_number c.args.self.now.pieces.surface.entries.now p) c.piece_of.ensures in
    omega (arith, c.args.self.now.pieces.surface.limited)

pub returns-clause-some : goal.returns-clause-some
returns-clause-some c =
    joined_is c.args.self.now.pieces.surface.table.now c.args.self.now.pieces.surface.coords.system c.args.self.now.pieces.surface.entries.now c.args.self.now.piece (c.args.slot % 4) (vertex_of_slot c.args.self.now.pieces.surface.coords.system c.args.self.now.piece c.args.slot) c.in_ok-corner.corner.face c.in_ok-corner.corner.vertex c.in_ok-meeting.meeting.arc c.in_ok-meeting.meeting.other c.in_ok-meeting.meeting.odd
    c.looks_positive-from.result c.looks_positive-to.result
    (record {
      piece = c.number_of.result;
      keeps_sides = beq c.looks_positive-from.result c.looks_positive-to.result;
      keeps_orientation = beq c.in_ok-meeting.meeting.odd (beq c.looks_positive-from.result c.looks_positive-to.result);
    })
    c.in_ok-corner.ensures.some.0 (c.in_ok-corner.ensures.some.1 ∙ vertex_is c.args.self.now.pieces.surface.coords.system c.piece.inside.column c.args.self.now.piece c.place_of-place.result c.args.slot (ap (λ (p : NormalDisc). p.column) c.piece.view_is) c.place_of-place.ensures) c.in_ok-meeting.ensures.some c.looks_positive-from.ensures c.looks_positive-to.ensures
    (c.number_of.ensures ∙ ap (λ (p : NormalDisc). disc_number c.args.self.now.pieces.surface.entries.now p) c.piece_of.ensures) refl refl

-- The arc meets the arc across its gluing, if it has one.
use Rattle.std.proofs.Common.{◌≡◌, ◌<◌, length, IfNone, sym, ap, ◌∙◌, subst}
use Rattle.table_definitions.specs.Permutation.{is_odd}
use Rattle.table_definitions.specs.Table.{Gluing, glue}
use Rattle.table_definitions.proofs.Faces.{face_at}
use Rattle.surface_definitions.specs.Pieces.{Arc}
use Rattle.surface_laws.specs.PieceLaws.{face_of_arc}
use Rattle.surface_pieces.specs.Meetings.{HasNoMeeting}
use Rattle.surface_pieces.proofs.ArcsOfPieces.{tet_in_range}
use Rattle.surface_pieces.proofs.Held.{held}
use Rattle.surface_pieces.proofs.MetArcs.{none_meets, free_meets, one_meets}
use Rattle.surface_pieces.proofs.surface.ListedDisc.meeting_at.Goals as goal

pub glue-requires : goal.glue-requires
glue-requires c = record { in_range = subst (λ t. t < length c.args.self.now.pieces.surface.table.now) (ap (λ (a : Arc). a.tet) (sym c.arc.view_is)) inside }
  where
    inside : (c.in_ok-arc.arc).tet < length c.args.self.now.pieces.surface.table.now
    inside = tet_in_range c.args.self.now.pieces.surface.table.now c.args.self.now.pieces.surface.coords.system c.args.self.now.pieces.surface.entries.now c.args.self.now.piece.column (c.in_ok-arc.arc).tet
        (held c.args.self.now.pieces.surface.table.now c.args.self.now.pieces.surface.coords.system c.args.self.now.pieces.surface.entries.now c.args.self.now.pieces.surface.normal) c.args.self.now.there.column c.in_ok-arc.ensures.some.0.tet

pub returns-in_err-arc-clause-none : goal.returns-in_err-arc-clause-none
returns-in_err-arc-clause-none c =
    subst (λ o. IfNone o (HasNoMeeting c.args.self.now.pieces.surface.table.now c.args.self.now.pieces.surface.coords.system c.args.self.now.pieces.surface.entries.now c.args.self.now.piece c.args.corner.face c.args.corner.vertex)) (sym c.from_residual.ensures)
    (none_meets c.args.self.now.pieces.surface.table.now c.args.self.now.pieces.surface.coords.system c.args.self.now.pieces.surface.entries.now (held c.args.self.now.pieces.surface.table.now c.args.self.now.pieces.surface.coords.system c.args.self.now.pieces.surface.entries.now c.args.self.now.pieces.surface.normal) c.args.self.now.piece c.args.corner.face c.args.corner.vertex c.in_err-arc.ensures.none)

pub returns-in_err-glue-clause-none : goal.returns-in_err-glue-clause-none
returns-in_err-glue-clause-none c =
    subst (λ o. IfNone o (HasNoMeeting c.args.self.now.pieces.surface.table.now c.args.self.now.pieces.surface.coords.system c.args.self.now.pieces.surface.entries.now c.args.self.now.piece c.args.corner.face c.args.corner.vertex)) (sym c.from_residual-in_err-glue.ensures)
    (free_meets c.args.self.now.pieces.surface.table.now c.args.self.now.pieces.surface.coords.system c.args.self.now.pieces.surface.entries.now (held c.args.self.now.pieces.surface.table.now c.args.self.now.pieces.surface.coords.system c.args.self.now.pieces.surface.entries.now c.args.self.now.pieces.surface.normal) c.args.self.now.piece c.args.corner.face c.args.corner.vertex c.in_ok-arc.arc c.in_ok-arc.ensures.some
    (ap (glue c.args.self.now.pieces.surface.table.now) face ∙ sym c.in_err-glue.ensures.value))
  where
    face : face_of_arc c.in_ok-arc.arc ≡ face_at c.arc.inside.tet c.args.corner.face
    face = λ i. face_at (ap (λ (a : Arc). a.tet) (sym c.arc.view_is) i) (c.in_ok-arc.ensures.some.0.face i)

pub returns-clause-some : goal.returns-clause-some
returns-clause-some c =
    one_meets c.args.self.now.pieces.surface.table.now c.args.self.now.pieces.surface.coords.system c.args.self.now.pieces.surface.entries.now (held c.args.self.now.pieces.surface.table.now c.args.self.now.pieces.surface.coords.system c.args.self.now.pieces.surface.entries.now c.args.self.now.pieces.surface.normal) c.args.self.now.piece c.args.corner.face c.args.corner.vertex c.in_ok-arc.arc c.across.result c.in_ok-glue.glue c.is_odd.result
    c.in_ok-arc.ensures.some
    (tet_in_range c.args.self.now.pieces.surface.table.now c.args.self.now.pieces.surface.coords.system c.args.self.now.pieces.surface.entries.now c.args.self.now.piece.column (c.in_ok-arc.arc).tet (held c.args.self.now.pieces.surface.table.now c.args.self.now.pieces.surface.coords.system c.args.self.now.pieces.surface.entries.now c.args.self.now.pieces.surface.normal) c.args.self.now.there.column c.in_ok-arc.ensures.some.0.tet)
    c.args.corner.a_vertex c.args.corner.off
    (ap (glue c.args.self.now.pieces.surface.table.now) face ∙ sym c.in_ok-glue.ensures.value)
    c.across.ensures (c.is_odd.ensures ∙ ap (λ (g : Gluing). is_odd g.perm) c.glue-2.view_is)
  where
    face : face_of_arc c.in_ok-arc.arc ≡ face_at c.arc.inside.tet c.args.corner.face
    face = λ i. face_at (ap (λ (a : Arc). a.tet) (sym c.arc.view_is) i) (c.in_ok-arc.ensures.some.0.face i)

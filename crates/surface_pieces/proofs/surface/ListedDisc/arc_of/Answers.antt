-- The arc of the piece by its lemma.
use Rattle.std.proofs.Common.{◌≡◌, ℕ, ◌+◌, ◌-◌, ◌/◌, ◌<◌, length, sym, ap, ◌∙◌, subst}
use Rattle.std.specs.Prelude.{slice_index, if◌then◌else◌}
use Rattle.surface_definitions.specs.Coordinates.{columns_each, tri_column}
use Rattle.surface_definitions.specs.Pieces.{NormalDisc, further_column, keeps_by_zero, type_in}
use Rattle.surface_laws.proofs.MeetingArcs.{arc_at}
use Rattle.surface_pieces.specs.Arcs.{IsOnlyArcOf}
use Rattle.surface_pieces.proofs.ArcsOfPieces.{triangle_arc, further_arc, tet_in_range}
use Rattle.surface_pieces.proofs.Held.{held}
use Rattle.surface_pieces.proofs.surface.ListedDisc.arc_of.Goals as goal

pub returns-then-piece-triangle_column-clause-some : goal.returns-then-piece-triangle_column-clause-some
returns-then-piece-triangle_column-clause-some c =
    subst (λ k. IsOnlyArcOf c.args.self.now.pieces.surface.coords.system c.args.self.now.pieces.surface.entries.now c.args.self.now.piece c.args.corner.face c.args.corner.vertex (arc_at c.tet_of-tet.result c.args.corner.face c.args.corner.vertex k)) (sym number)
    (triangle_arc c.args.self.now.pieces.surface.coords.system (length c.args.self.now.pieces.surface.table.now) c.args.self.now.pieces.surface.entries.now (held c.args.self.now.pieces.surface.table.now c.args.self.now.pieces.surface.coords.system c.args.self.now.pieces.surface.entries.now c.args.self.now.pieces.surface.normal).triangles (held c.args.self.now.pieces.surface.table.now c.args.self.now.pieces.surface.coords.system c.args.self.now.pieces.surface.entries.now c.args.self.now.pieces.surface.normal).admissible c.tet_of-tet.result c.args.corner.face c.args.corner.vertex
    (tet_in_range c.args.self.now.pieces.surface.table.now c.args.self.now.pieces.surface.coords.system c.args.self.now.pieces.surface.entries.now c.args.self.now.piece.column c.tet_of-tet.result (held c.args.self.now.pieces.surface.table.now c.args.self.now.pieces.surface.coords.system c.args.self.now.pieces.surface.entries.now c.args.self.now.pieces.surface.normal) c.args.self.now.there.column tet)
    c.args.corner.a_face c.args.corner.a_vertex c.args.corner.off c.args.self.now.piece tet c.args.self.now.there.number
    (sym column ∙ c.if-piece-triangle_column.true ∙ c.triangle_column.ensures))
  where
    column : c.piece.inside.column ≡ c.args.self.now.piece.column
    column = ap (λ (p : NormalDisc). p.column) c.piece.view_is

    number : c.piece.inside.number ≡ c.args.self.now.piece.number
    number = ap (λ (p : NormalDisc). p.number) c.piece.view_is

    tet : c.tet_of-tet.result ≡ c.args.self.now.piece.column / columns_each c.args.self.now.pieces.surface.coords.system
    tet = c.tet_of-tet.ensures ∙ ap (λ k. k / columns_each c.args.self.now.pieces.surface.coords.system) column

pub returns-clause-some : goal.returns-clause-some
returns-clause-some c =
    subst (λ k. IsOnlyArcOf c.args.self.now.pieces.surface.coords.system c.args.self.now.pieces.surface.entries.now c.args.self.now.piece c.args.corner.face c.args.corner.vertex (arc_at c.tet_of-tet.result c.args.corner.face c.args.corner.vertex k)) (sym place)
    (further_arc c.args.self.now.pieces.surface.coords.system (length c.args.self.now.pieces.surface.table.now) c.args.self.now.pieces.surface.entries.now (held c.args.self.now.pieces.surface.table.now c.args.self.now.pieces.surface.coords.system c.args.self.now.pieces.surface.entries.now c.args.self.now.pieces.surface.normal).triangles (held c.args.self.now.pieces.surface.table.now c.args.self.now.pieces.surface.coords.system c.args.self.now.pieces.surface.entries.now c.args.self.now.pieces.surface.normal).admissible c.tet_of-tet.result c.args.corner.face c.args.corner.vertex below
    c.args.corner.a_face c.args.corner.a_vertex c.args.corner.off c.args.self.now.piece tet c.args.self.now.there.number
    (sym column ∙ c.if-piece-further.false ∙ c.across-further.ensures.column))
  where
    column : c.piece.inside.column ≡ c.args.self.now.piece.column
    column = ap (λ (p : NormalDisc). p.column) c.piece.view_is

    number : c.piece.inside.number ≡ c.args.self.now.piece.number
    number = ap (λ (p : NormalDisc). p.number) c.piece.view_is

    tet : c.tet_of-tet.result ≡ c.args.self.now.piece.column / columns_each c.args.self.now.pieces.surface.coords.system
    tet = c.tet_of-tet.ensures ∙ ap (λ k. k / columns_each c.args.self.now.pieces.surface.coords.system) column

    below : c.tet_of-tet.result < length c.args.self.now.pieces.surface.table.now
    below = tet_in_range c.args.self.now.pieces.surface.table.now c.args.self.now.pieces.surface.coords.system c.args.self.now.pieces.surface.entries.now c.args.self.now.piece.column c.tet_of-tet.result (held c.args.self.now.pieces.surface.table.now c.args.self.now.pieces.surface.coords.system c.args.self.now.pieces.surface.entries.now c.args.self.now.pieces.surface.normal) c.args.self.now.there.column tet

    counted : c.number_from_end-place.result ≡ (if keeps_by_zero (type_in c.args.self.now.pieces.surface.coords.system c.across-further.result.column) c.args.corner.vertex then c.args.self.now.piece.number else slice_index c.args.self.now.pieces.surface.entries.now c.across-further.result.column - 1 - c.args.self.now.piece.number)
    counted = c.number_from_end-place.ensures ∙ (λ i. if c.across-further.ensures.side i then number i else slice_index c.args.self.now.pieces.surface.entries.now c.across-further.result.column - 1 - number i)

    meant : ℕ
    meant = further_column c.args.self.now.pieces.surface.coords.system c.args.self.now.pieces.surface.entries.now (arc_at c.tet_of-tet.result c.args.corner.face c.args.corner.vertex 0)

    -- the index of the arc, by the column of its piece
    place : c.triangles.result + c.number_from_end-place.result ≡ slice_index c.args.self.now.pieces.surface.entries.now (tri_column c.args.self.now.pieces.surface.coords.system c.tet_of-tet.result c.args.corner.vertex)
        + (if keeps_by_zero (type_in c.args.self.now.pieces.surface.coords.system meant) c.args.corner.vertex then c.args.self.now.piece.number else slice_index c.args.self.now.pieces.surface.entries.now meant - 1 - c.args.self.now.piece.number)
    place = (λ i. c.triangles.ensures i + counted i)
        ∙ ap (λ d. slice_index c.args.self.now.pieces.surface.entries.now (tri_column c.args.self.now.pieces.surface.coords.system c.tet_of-tet.result c.args.corner.vertex) + (if keeps_by_zero (type_in c.args.self.now.pieces.surface.coords.system d) c.args.corner.vertex then c.args.self.now.piece.number else slice_index c.args.self.now.pieces.surface.entries.now d - 1 - c.args.self.now.piece.number))
        c.across-further.ensures.column

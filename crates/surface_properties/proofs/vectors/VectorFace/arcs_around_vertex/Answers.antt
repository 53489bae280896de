-- The columns around a vertex of a face are columns of the vector.
use Rattle.std.proofs.Common.{◌≡◌, ◌<◌, List, ℕ, length, sym, ap, ◌∙◌, subst, arith}
use Rattle.std.specs.Prelude.{All, sum_by, slice_index}
use Rattle.table_definitions.specs.Permutation.{others}
use Rattle.table_definitions.specs.Table.{Face}
use Rattle.surface_definitions.specs.Coordinates.{arc_columns}
use Rattle.surface_properties.specs.Capped.{capped}
use Rattle.surface_properties.proofs.ColumnsInRange.{arcs_inside}
use Rattle.surface_properties.proofs.vectors.VectorFace.arcs_around_vertex.Goals as goal

pub sum_at-requires : goal.sum_at-requires
sum_at-requires c =
    subst (λ (cs : List ℕ). All (λ k. k < length c.args.self.now.vector.entries.now) cs) (sym (c.as_slice.ensures.value ∙ c.arc_columns-columns.ensures))
    (arcs_inside c.args.self.now.vector.coords.system c.face.inside.tet c.face.inside.face c.corner.result (length c.args.self.now.vector.table.now) c.args.self.now.vector.entries.now c.args.self.now.vector.coords.triangles (omega (arith, tet)) c.args.self.now.vector.width
    c.face.invariant c.corner.ensures.in_range (λ e. c.corner.ensures.off (e ∙ face)))
  where
    tet : c.face.inside.tet ≡ c.args.self.now.face.tet
    tet = ap (λ (y : Face). y.tet) c.face.view_is

    face : c.face.inside.face ≡ c.args.self.now.face.face
    face = ap (λ (y : Face). y.face) c.face.view_is

pub returns-clause-value : goal.returns-clause-value
returns-clause-value c = c.sum_at.ensures ∙ ap (λ (cs : List ℕ). capped (sum_by (slice_index c.args.self.now.vector.entries.now) cs)) columns
  where
    columns : c.as_slice.result.now ≡ arc_columns c.args.self.now.vector.coords.system c.args.self.now.face.tet c.args.self.now.face.face (slice_index (others c.args.self.now.face.face) c.args.number)
    columns = c.as_slice.ensures.value ∙ c.arc_columns-columns.ensures
        ∙ (λ i. arc_columns c.args.self.now.vector.coords.system (ap (λ (y : Face). y.tet) c.face.view_is i) (ap (λ (y : Face). y.face) c.face.view_is i) (c.corner.ensures.value i))

use Rattle.std.proofs.Common.{◌≡◌, ℕ, List, [], ◌∷◌, ◌++◌, ap, sym, ◌∙◌}
use Rattle.table_definitions.specs.Permutation.{image}
use Rattle.table_definitions.specs.Table.{Face, Gluing}
use Rattle.surface_definitions.specs.Coordinates.{arc_columns}
use Rattle.surface_definitions.specs.Equations.{row_of, matching}
use Rattle.table_definitions.proofs.PermutationLaws.{images_apart}
use Rattle.matching_equations.proofs.matching.push_equation.Goals as goal

pub arc_columns-right-requires-clause-separate : goal.arc_columns-right-requires-clause-separate
arc_columns-right-requires-clause-separate c same =
    let face : c.face.inside.face ≡ c.args.pair.now.face.face = ap (λ (x : Face). x.face) c.face.view_is in
    images_apart c.glue.inside.perm c.args.vertex c.face.inside.face c.image-other_face.ensures.permutes c.requires.a_vertex c.face.invariant (λ e. c.requires.separate (e ∙ face))
    (sym c.image-other_vertex.ensures.value ∙ same ∙ c.image-other_face.ensures.value)

pub returns-clause-rows : goal.returns-clause-rows
returns-clause-rows c = ap (λ s. s.rows) c.in_ok-push_row.ensures.ok ∙ ap (λ row. c.args.system.now.rows ++ row ∷ []) made
  where
    left : c.as_slice.result.now ≡ arc_columns c.args.coords.system c.args.pair.now.face.tet c.args.pair.now.face.face c.args.vertex
    left = c.as_slice.ensures.value ∙ c.arc_columns-left.ensures ∙ ap (λ (x : Face). arc_columns c.args.coords.system x.tet x.face c.args.vertex) c.face.view_is

    across : Face → Gluing → List ℕ
    across x g = arc_columns c.args.coords.system g.tet (image g.perm x.face) (image g.perm c.args.vertex)

    right : c.as_slice-2.result.now ≡ across c.args.pair.now.face c.args.pair.now.glue
    right =
        c.as_slice-2.ensures.value ∙ c.arc_columns-right.ensures
        ∙ (λ i. arc_columns c.args.coords.system c.glue.inside.tet (c.image-other_face.ensures.value i) (c.image-other_vertex.ensures.value i))
        ∙ (λ i. across (c.face.view_is i) (c.glue.view_is i))

    made : c.in_ok-row.row ≡ row_of c.args.system.now.columns (matching c.args.coords.system c.args.pair.now.face c.args.pair.now.glue c.args.vertex)
    made = c.in_ok-row.ensures.value ∙ (λ i. row_of (c.columns.ensures i) (record { left = left i; right = right i }))

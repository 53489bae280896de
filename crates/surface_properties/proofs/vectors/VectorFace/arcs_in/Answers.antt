-- The arcs around the three vertices of the face.
use Rattle.std.proofs.Common.{ℕ, sym, ap, ◌∙◌}
use Rattle.std.specs.Prelude.{slice_index}
use Rattle.table_definitions.specs.Permutation.{others}
use Rattle.surface_definitions.specs.Pieces.{arcs_around}
use Rattle.surface_properties.specs.Capped.{capped}
use Rattle.surface_properties.proofs.CappedSums.{capped_three}
use Rattle.surface_properties.proofs.ArcSums.{three_others}
use Rattle.surface_properties.proofs.vectors.VectorFace.arcs_in.Goals as goal

pub returns : goal.returns
returns c =
    c.add.ensures
    ∙ capped_three (round (slice_index (others c.args.self.now.face.face) 0)) (round (slice_index (others c.args.self.now.face.face) 1)) (round (slice_index (others c.args.self.now.face.face) 2))
    c.arcs_around_vertex-one.result c.arcs_around_vertex.result c.arcs_around_vertex-2.result c.add-two.result
    c.arcs_around_vertex-one.ensures.value c.arcs_around_vertex.ensures.value c.arcs_around_vertex-2.ensures.value
    c.add-two.ensures ∙ ap capped (sym (three_others round c.args.self.now.face.face c.arcs_around_vertex.ensures.a_face))
  where
    round : ℕ → ℕ
    round v = arcs_around c.args.self.now.vector.coords.system c.args.self.now.vector.entries.now c.args.self.now.face.tet c.args.self.now.face.face v

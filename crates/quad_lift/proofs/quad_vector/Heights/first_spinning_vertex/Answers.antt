-- If heights and quads do not agree at a vertex of a smaller class, this class becomes the least.
use Rattle.std.proofs.Common.{◌≡◌, length, ap, ◌∙◌, refl, arith}
use Rattle.std.specs.Prelude.{slice_index}
use Rattle.quad_lift.proofs.LeastWrong.{wrong_all, wrong_stays, wrong_falls}
use Rattle.quad_lift.proofs.quad_vector.Heights.first_spinning_vertex.Goals as goal
use Rattle.quad_lift.proofs.quad_vector.Heights.first_spinning_vertex.Goals.{then-class-least+then-not-agrees_around, else-class-least, else-class-least-via-then-class-least+else-not-agrees_around, else-class-least-via-else-class-least}

pub returns : goal.returns
returns c =
    wrong_all c.args.self.now.vector.skeleton.now c.args.self.now.vector.entries.now c.args.self.now.values.now c.loop-vertex.vertex c.loop-vertex.least
    (omega (arith, c.loop-vertex-test.false, c.loop-vertex.auto.vertex-end, c.len-vertex-end.ensures.value, ap length c.table.ensures.rows)) c.loop-vertex.invariant

pub loop-vertex-preserved : goal.loop-vertex-preserved
loop-vertex-preserved c = elim c.if-class-least.branch [
  | then-class-least+then-not-agrees_around w ↦ rw w.least-is
      (wrong_falls c.args.self.now.vector.skeleton.now c.args.self.now.vector.entries.now c.args.self.now.values.now c.loop-vertex.vertex c.loop-vertex.least c.vertex_class-class.result c.loop-vertex.invariant class w.if-class-least.true
      (w.if-not-agrees_around.ensures.wrong refl))
  | else-class-least w ↦ elim w.else-class-least.branch [
    | else-class-least-via-then-class-least+else-not-agrees_around w' ↦ rw w.least-is
        (wrong_stays c.args.self.now.vector.skeleton.now c.args.self.now.vector.entries.now c.args.self.now.values.now c.loop-vertex.vertex c.loop-vertex.least c.loop-vertex.invariant (λ l. w'.if-not-agrees_around.ensures.agrees refl))
    | else-class-least-via-else-class-least w' ↦ rw w.least-is
        (wrong_stays c.args.self.now.vector.skeleton.now c.args.self.now.vector.entries.now c.args.self.now.values.now c.loop-vertex.vertex c.loop-vertex.least c.loop-vertex.invariant (λ l. absurd (omega (arith, class, w'.if-class-least.false))))
  ]
]
  where
    class : c.vertex_class-class.result ≡ slice_index c.args.self.now.vector.skeleton.now.vertices.classes c.loop-vertex.vertex
    class = c.vertex_class-class.ensures.class ∙ ap (slice_index c.args.self.now.vector.skeleton.now.vertices.classes) (omega arith)

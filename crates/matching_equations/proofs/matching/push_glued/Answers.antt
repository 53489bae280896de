use Rattle.std.proofs.Common.{◌≡◌, [], ◌∷◌, ◌+◌, ◌++◌, length, arith, ap, sym, ◌∙◌}
use Rattle.cone_definitions.specs.Systems.{System}
use Rattle.table_definitions.specs.Table.{Face}
use Rattle.surface_definitions.specs.Equations.{matching, row_of}
use Rattle.matching_equations.proofs.Matched.{glued_before, glued_push, glued_skip, glued_whole}
use Rattle.matching_equations.proofs.matching.push_glued.Goals.{then-vertex-opposite+in_ok-push_equation, else-vertex-opposite}
use Rattle.matching_equations.proofs.matching.push_glued.Goals as goal

pub loop-vertex-preserved : goal.loop-vertex-preserved
loop-vertex-preserved c =
    let face : c.face.inside.face ≡ c.args.pair.now.face.face = ap (λ (x : Face). x.face) c.face.view_is in
    elim c.if-vertex-opposite.branch [
      | then-vertex-opposite+in_ok-push_equation w ↦
          let e : length c.if-vertex-opposite.system.rows ≡ length w.push_equation.new.system.rows = ap (λ (s : System). length s.rows) w.system-is in
          let one : length w.push_equation.new.system.rows ≡ length c.loop-vertex.system.rows + 1 = w.in_ok-push_equation.ensures.one_more in
          record {
            columns = ap (λ (s : System). s.columns) w.system-is ∙ w.in_ok-push_equation.ensures.columns ∙ c.loop-vertex.invariant.columns;
            rows = ap (λ (s : System). s.rows) w.system-is
                ∙ glued_push c.args.coords.system c.args.system.now.columns c.args.pair.now.face c.args.pair.now.glue c.loop-vertex.vertex _ c.loop-vertex.system.rows _ (λ same. w.if-vertex-opposite.true (same ∙ sym face))
                c.loop-vertex.invariant.rows
                (w.in_ok-push_equation.ensures.rows
                ∙ ap (λ n. c.loop-vertex.system.rows ++ row_of n (matching c.args.coords.system c.args.pair.now.face c.args.pair.now.glue c.loop-vertex.vertex) ∷ []) c.loop-vertex.invariant.columns);
            limited = omega arith;
          }
      | else-vertex-opposite w ↦
          let e : length c.if-vertex-opposite.system.rows ≡ length c.loop-vertex.system.rows = ap (λ (s : System). length s.rows) w.system-is in
          record {
            columns = ap (λ (s : System). s.columns) w.system-is ∙ c.loop-vertex.invariant.columns;
            rows = ap (λ (s : System). s.rows) w.system-is
                ∙ glued_skip c.args.coords.system c.args.system.now.columns c.args.pair.now.face c.args.pair.now.glue c.loop-vertex.vertex _ _ (w.if-vertex-opposite.false ∙ face) c.loop-vertex.invariant.rows;
            limited = omega arith;
          }
    ]

pub returns-clause-rows : goal.returns-clause-rows
returns-clause-rows c =
    let all : c.loop-vertex.vertex ≡ 4 = omega arith in
    c.loop-vertex.invariant.rows
    ∙ ap (λ v. c.args.system.now.rows ++ glued_before c.args.coords.system c.args.system.now.columns c.args.pair.now.face c.args.pair.now.glue v) all
    ∙ ap (λ r. c.args.system.now.rows ++ r) (glued_whole c.args.coords.system c.args.system.now.columns c.args.pair.now.face c.args.pair.now.glue)

use Rattle.std.proofs.Common.{◌≡◌, ℕ, ◌+◌, ◌≤◌, ◌++◌, length, arith, ap, ◌∙◌}
use Rattle.std.specs.List.{flat_map}
use Rattle.table_definitions.specs.Lists.{below}
use Rattle.table_definitions.proofs.Faces.{face_at}
use Rattle.matching_equations.specs.Matching.{face_rows}
use Rattle.matching_equations.proofs.Matched.{Rows, appended_more, tet_whole}
use Rattle.matching_equations.proofs.matching.push_tet.Goals as goal

pub loop-face-preserved : goal.loop-face-preserved
loop-face-preserved c =
    let f : ℕ → ℕ → Rows = λ n k. face_rows c.args.coords.system c.args.table.now n (face_at c.args.tet k) in
    let limited : length c.push_face.new.system.rows ≤ length c.loop-face.system.rows + 4 = c.in_ok-push_face.ensures.limited in
    record {
      columns = c.in_ok-push_face.ensures.columns ∙ c.loop-face.invariant.columns;
      rows = appended_more (f c.args.system.now.columns) c.loop-face.face _ _ _ c.loop-face.invariant.rows
          (c.in_ok-push_face.ensures.rows ∙ ap (λ n. c.loop-face.system.rows ++ f n c.loop-face.face) c.loop-face.invariant.columns);
      limited = omega arith;
    }

pub returns-clause-rows : goal.returns-clause-rows
returns-clause-rows c =
    let all : c.loop-face.face ≡ 4 = omega arith in
    let f : ℕ → Rows = λ k. face_rows c.args.coords.system c.args.table.now c.args.system.now.columns (face_at c.args.tet k) in
    c.loop-face.invariant.rows ∙ ap (λ k. c.args.system.now.rows ++ flat_map f (below k)) all
    ∙ ap (λ r. c.args.system.now.rows ++ r) (tet_whole c.args.coords.system c.args.table.now c.args.system.now.columns c.args.tet)

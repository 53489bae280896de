use Rattle.std.proofs.Common.{◌≡◌, ℕ, [], ◌+◌, ◌≤◌, ◌++◌, length, arith, ap, ◌∙◌}
use Rattle.std.specs.List.{flat_map}
use Rattle.surface_definitions.specs.Coordinates as coordinates
use Rattle.table_definitions.specs.Lists.{below}
use Rattle.matching_equations.specs.Matching.{tet_rows}
use Rattle.matching_equations.proofs.Matched.{Rows, appended_more, all_rows}
use Rattle.matching_equations.proofs.matching.matching_system.Goals as goal

pub loop-tet-preserved : goal.loop-tet-preserved
loop-tet-preserved c =
    let f : ℕ → ℕ → Rows = λ n k. tet_rows c.args.coords.system c.args.table.now n k in
    let limited : length c.push_tet.new.system.rows ≤ length c.loop-tet.system.rows + 16 = c.in_ok-push_tet.ensures.limited in
    record {
      columns = c.in_ok-push_tet.ensures.columns ∙ c.loop-tet.invariant.columns;
      rows = appended_more (f (coordinates.columns c.args.coords.system (length c.args.table.now))) c.loop-tet.tet [] _ _ c.loop-tet.invariant.rows
          (c.in_ok-push_tet.ensures.rows ∙ ap (λ n. c.loop-tet.system.rows ++ f n c.loop-tet.tet) c.loop-tet.invariant.columns);
      limited = omega arith;
    }

pub returns-clause-rows : goal.returns-clause-rows
returns-clause-rows c =
    let same : length c.rows.result.now ≡ length c.args.table.now = ap length c.rows.ensures.rows in
    let all : c.loop-tet.tet ≡ length c.args.table.now = omega arith in
    let f : ℕ → Rows = tet_rows c.args.coords.system c.args.table.now (coordinates.columns c.args.coords.system (length c.args.table.now)) in
    c.loop-tet.invariant.rows ∙ ap (λ k. flat_map f (below k)) all ∙ all_rows c.args.coords.system c.args.table.now

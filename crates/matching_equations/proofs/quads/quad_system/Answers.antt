use Rattle.std.proofs.Common.{◌+◌, ◌≤◌, length, arith, ◌∙◌}
use Rattle.matching_equations.proofs.ClassRows.{rows_more}
use Rattle.matching_equations.proofs.quads.quad_system.Goals as goal

pub loop-class-preserved : goal.loop-class-preserved
loop-class-preserved c =
    let more = rows_more c.args.skeleton.now.rows c.args.skeleton.now.edges.classes c.loop-class.class c.loop-class.system.rows c.push_edge.new.system.rows c.loop-class.invariant.rows c.in_ok-push_edge.ensures.rows in
    let one : length c.push_edge.new.system.rows ≤ length c.loop-class.system.rows + 1 = more.1 in
    record {
      skeleton = c.loop-class.invariant.skeleton;
      columns = c.in_ok-push_edge.ensures.columns ∙ c.loop-class.invariant.columns;
      rows = more.0;
      limited = omega (arith, c.loop-class.invariant.limited);
    }

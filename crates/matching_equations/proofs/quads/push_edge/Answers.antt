use Rattle.std.proofs.Common.{sym}
use Rattle.skeleton_class_laws.proofs.EdgeCorners.{round_of}
use Rattle.matching_equations.proofs.ClassRows.{row_appended}
use Rattle.matching_equations.proofs.quads.push_edge.Goals as goal

pub push_around-requires-clause-corners : goal.push_around-requires-clause-corners
push_around-requires-clause-corners c =
    (round_of c.args.skeleton.now c.args.class c.around.result.now c.requires.skeleton c.requires.class (sym c.if-is_boundary_edge.ensures) c.around.ensures).inside

pub push_around-requires-clause-limited : goal.push_around-requires-clause-limited
push_around-requires-clause-limited c =
    (round_of c.args.skeleton.now c.args.class c.around.result.now c.requires.skeleton c.requires.class (sym c.if-is_boundary_edge.ensures) c.around.ensures).limited

pub returns-clause-rows : goal.returns-clause-rows
returns-clause-rows c =
    row_appended c.args.skeleton.now c.args.class c.args.system.now.columns c.around.result.now _ _ (sym c.if-is_boundary_edge.ensures)
    (round_of c.args.skeleton.now c.args.class c.around.result.now c.requires.skeleton c.requires.class (sym c.if-is_boundary_edge.ensures) c.around.ensures)
    c.requires.columns c.in_ok-push_around.ensures.rows

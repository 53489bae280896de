-- One more line.
use Rattle.std.proofs.Common.{false}
use Rattle.std.specs.List.{slice_index_or}
use Rattle.outcome_definitions.specs.Information.{edge_text, edge_line}
use Rattle.outcome_definitions.proofs.ClassTexts.{lines_begin, lines_more}
use Rattle.table_commands.proofs.ClassLines.{edge_same}
use Rattle.table_commands.proofs.information.Information.append_edges.Goals as goal

pub loop-class-init : goal.loop-class-init
loop-class-init c = lines_begin _ _

pub loop-class-preserved : goal.loop-class-preserved
loop-class-preserved c =
    lines_more (edge_text c.args.self.now.skeleton.now c.args.self.now.valid.now) c.loop-class.class c.args.text.now.items c.loop-class.text.items c.append_edge.new.text.items
    (edge_line c.loop-class.class c.edge_degree.result c.is_boundary_edge.result (slice_index_or c.args.self.now.valid.now c.loop-class.class false)) c.in_ok-append_edge.ensures c.loop-class.invariant
    (edge_same c.loop-class.class _ _ _ _ _ c.edge_degree.ensures c.is_boundary_edge.ensures)

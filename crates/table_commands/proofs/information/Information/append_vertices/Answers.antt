-- One more line.
use Rattle.std.specs.List.{slice_index_or}
use Rattle.outcome_definitions.specs.Information.{vertex_text, vertex_line, no_link}
use Rattle.outcome_definitions.proofs.ClassTexts.{lines_begin, lines_more}
use Rattle.table_commands.proofs.ClassLines.{vertex_same}
use Rattle.table_commands.proofs.information.Information.append_vertices.Goals as goal

pub loop-class-init : goal.loop-class-init
loop-class-init c = lines_begin _ _

pub loop-class-preserved : goal.loop-class-preserved
loop-class-preserved c =
    lines_more (vertex_text c.args.self.now.skeleton.now c.args.self.now.links.now) c.loop-class.class c.args.text.now.items c.loop-class.text.items c.append_vertex.new.text.items
    (vertex_line c.loop-class.class c.vertex_degree.result (slice_index_or c.args.self.now.links.now c.loop-class.class no_link)) c.in_ok-append_vertex.ensures c.loop-class.invariant
    (vertex_same c.loop-class.class _ _ (slice_index_or c.args.self.now.links.now c.loop-class.class no_link) c.vertex_degree.ensures)

-- One more tetrahedron.
use Rattle.std.proofs.Common.{[]}
use Rattle.edge_group.proofs.Grown.{tets_more}
use Rattle.edge_group.proofs.distances.next_level.Goals as goal

pub loop-tet-preserved : goal.loop-tet-preserved
loop-tet-preserved c =
    tets_more c.args.level.table.now c.args.level.tets.now c.loop-tet.tet-index c.args.distance c.args.marks.now c.loop-tet.marks c.mark_neighbours.new.marks [] c.loop-tet.next.items c.mark_neighbours.new.next.items
    c.loop-tet-test.true c.loop-tet.invariant c.in_ok-mark_neighbours.ensures

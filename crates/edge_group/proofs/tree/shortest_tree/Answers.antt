-- In a connected table the least faces that are glued to a tetrahedron from a closer one are tree faces.
use Rattle.edge_group.proofs.Closer.{closer_tree}
use Rattle.edge_group.proofs.tree.shortest_tree.Goals as goal

pub returns : goal.returns
returns c = record {
  tree = closer_tree c.args.table.now c.distances.ensures.is_table c.requires c.in_ok-faces.faces.items c.in_ok-faces.ensures;
  distances = c.in_ok-distances.ensures.distances;
}

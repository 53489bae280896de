use Rattle.std.proofs.Common.{◌≡◌, ◌<◌, ◌≤◌, All, length}
use Rattle.skeleton_definitions.specs.Corners.{internal_edges}
use Rattle.edge_group.proofs.relators.internal_edge_classes.Given as goal

abbrev pub invariant-loop-class : goal.invariant-loop-class
invariant-loop-class l = record {
  edges : l.edges.items ≡ internal_edges l.skeleton.rows l.skeleton.edges.classes l.class;
  inside : All (λ c. c < l.class) l.edges.items;
  limited : length l.edges.items ≤ l.class;
}

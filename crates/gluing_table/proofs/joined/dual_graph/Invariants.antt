-- The rows so far.
use Rattle.std.proofs.Common.{◌≡◌, take}
use Rattle.gluing_table.specs.Neighbours.{all_neighbours}
use Rattle.gluing_table.proofs.joined.dual_graph.Given as goal

abbrev pub invariant-loop-row : goal.invariant-loop-row
invariant-loop-row l = l.all.items ≡ all_neighbours (take l.row-index l.rows)

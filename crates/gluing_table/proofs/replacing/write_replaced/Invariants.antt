-- The rows of the new table so far.
use Rattle.std.proofs.Common.{◌≡◌, ◌≤◌, map, vec_capacity}
use Rattle.table_definitions.specs.Lists.{below}
use Rattle.table_definitions.specs.Replacing.{replaced_row}
use Rattle.gluing_table.proofs.replacing.write_replaced.Given as goal

abbrev pub invariant-loop-number : goal.invariant-loop-number
invariant-loop-number l = record {
  so_far : l.new.items ≡ map (replaced_row l.swap.rows l.swap.by) (below l.number);
  room : 1000 ≤ vec_capacity l.new;
}

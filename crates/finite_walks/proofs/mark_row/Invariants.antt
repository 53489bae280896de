-- The entries so far are processed.
use Rattle.std.proofs.Common.{take}
use Rattle.table_walk_laws.specs.Joined.{present}
use Rattle.finite_walks.specs.Rows.{IsRowMarked}
use Rattle.finite_walks.proofs.mark_row.Given as goal

abbrev pub invariant-loop-neighbour : goal.invariant-loop-neighbour
invariant-loop-neighbour l = IsRowMarked (present l.row) (present (take l.neighbour-index l.row)) l.fn.marked l.marked l.fn.pending.items l.pending.items

-- The classes of the items of each kind in a table have a numbering.
use Rattle.std.proofs.Common.{ℕ, ◌*◌, List, [], length, map, Option, subst, arith}
use Rattle.std.proofs.lemmas.List.FromFn.{length-map-range_with_len, get_or-map-range_with_len}
use Rattle.table_walk_laws.specs.Joined.{IsSymmetric, HasNeighboursBelow, neighbours_of}
use Rattle.table_definitions.specs.Lists.{below}
use Rattle.table_definitions.specs.Table.{Row, IsTable}
use Rattle.skeleton_class_laws.specs.declared.Kind.{Kind}
use Rattle.skeleton_class_laws.specs.Laws.{HasClasses}
use Rattle.skeleton_class_laws.specs.Neighbours.{AreNeighbours, row_at}
use Rattle.skeleton_class_laws.specs.Numberings.{per_tet, crossing, same}
use Rattle.skeleton_class_laws.proofs.NeighbourLemmas.{has_neighbours_below, is_symmetric}
use Rattle.skeleton_class_laws.proofs.ClassTies.{each_reversible, joined_is_same}
use Rattle.table_walk_laws.proofs.Numberings.{HasNumbering, numbering_exists}

are_neighbours : (n : ℕ) (next : ℕ → ℕ → Option ℕ) → AreNeighbours n next (map (row_at next) (below n))
are_neighbours n next = record {
  one_each = length-map-range_with_len (row_at next) 0 n;
  entries = λ i l. get_or-map-range_with_len (row_at next) 0 n i i [] l (omega arith);
}

module _ (kind : Kind) (rows : List Row) (table : IsTable rows) where
  abbrev n : ℕ
  n = per_tet kind * length rows

  abbrev next : ℕ → ℕ → Option ℕ
  next = crossing kind rows

  abbrev neighbours : ℕ → List ℕ
  neighbours = neighbours_of (map (row_at next) (below n))

  symmetric : IsSymmetric neighbours
  symmetric = is_symmetric n next (map (row_at next) (below n)) (are_neighbours n next) (each_reversible kind rows table)

  below_n : HasNeighboursBelow n neighbours
  below_n = subst (λ m. HasNeighboursBelow m neighbours) (are_neighbours n next).one_each
      (has_neighbours_below n next (map (row_at next) (below n)) (are_neighbours n next) (each_reversible kind rows table))

  pub classes_exist : HasClasses kind rows
  classes_exist =
      let h : HasNumbering n neighbours symmetric below_n (same kind rows) =
      numbering_exists n neighbours symmetric below_n (same kind rows) (joined_is_same kind rows (map (row_at next) (below n)) table (are_neighbours n next)) in
      record { classes = h.classes; count = h.count; numbered = h.numbered }

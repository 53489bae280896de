-- The numbers so far.
use Rattle.std.proofs.Common.{◌≡◌, map}
use Rattle.std.specs.Prelude.{filter}
use Rattle.table_definitions.specs.Lists.{below, has}
use Rattle.move_definitions.specs.Moves.{Facet}
use Rattle.pachner_moves.proofs.moving.taken_numbers.Given as goal

abbrev pub invariant-loop-tet : goal.invariant-loop-tet
invariant-loop-tet l = l.numbers.items ≡ filter (has (map (λ (f : Facet). f.tet) l.taken.facets.now)) (below l.tet)

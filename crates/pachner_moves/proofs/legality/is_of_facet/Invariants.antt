-- No facet so far has the tetrahedron.
use Rattle.std.proofs.Common.{◌≡◌, false, take, map}
use Rattle.table_definitions.specs.Lists.{has}
use Rattle.move_definitions.specs.Moves.{Facet}
use Rattle.pachner_moves.proofs.legality.is_of_facet.Given as goal

abbrev pub invariant-loop-facet : goal.invariant-loop-facet
invariant-loop-facet l = has (map (λ (f : Facet). f.tet) (take l.facet-index l.facets)) l.tet ≡ false

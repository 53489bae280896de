-- No facet so far has the tetrahedron.
use Rattle.std.proofs.Common.{◌≡◌, take, None}
use Rattle.std.specs.Prelude.{◌==◌, find}
use Rattle.move_definitions.specs.Moves.{Facet}
use Rattle.pachner_moves.proofs.facets.facet_of.Given as goal

abbrev pub invariant-loop-facet : goal.invariant-loop-facet
invariant-loop-facet l = find (λ (f : Facet). f.tet == l.tet) (take l.facet-index l.facets) ≡ None

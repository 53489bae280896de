-- Whether all numbers of an enumeration of a table's surfaces are known beforehand to be within a limit.
use Rattle.std.specs.Prelude.{◌≡◌, ℕ, ◌<◌, ◌≤◌, ◌⊎◌}
use Rattle.cone_definitions.specs.Systems.{System}
use Rattle.surface_definitions.specs.declared.Coords.{Coords}
use Rattle.surface_definitions.specs.declared.Coords.TheVariants.{Quad}
use Rattle.surface_equation_laws.specs.Bounds.{number_bound}
use Rattle.number_bounds.specs.Triples.{AreTriplesBounded, TriplesExceed}

-- by the number of tetrahedra, or in quad coordinates by the sums of squares of the equations
abbrev pub AreNumbersBounded : Coords → ℕ → System → ℕ → Type 0
AreNumbersBounded coords tets system limit = (number_bound coords tets ≤ limit) ⊎ ((coords ≡ Quad) × AreTriplesBounded system limit)

-- neither the number of tetrahedra nor the sums of squares shows it
abbrev pub BothExceed : Coords → ℕ → System → ℕ → Type 0
BothExceed coords tets system limit = (limit < number_bound coords tets) × (coords ≡ Quad → TriplesExceed system limit)

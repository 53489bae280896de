-- The arcs of the tetrahedra so far.
use Rattle.std.proofs.Common.{◌≡◌}
use Rattle.std.specs.Prelude.{sum_by}
use Rattle.table_definitions.specs.Lists.{below}
use Rattle.surface_properties.specs.Capped.{capped}
use Rattle.surface_properties.specs.Counted.{counted_in}
use Rattle.surface_properties.proofs.vectors.DiscVector.arcs.Given as goal

abbrev pub invariant-loop-tet : goal.invariant-loop-tet
invariant-loop-tet l = l.total ≡ capped (sum_by (counted_in l.self.table.now l.self.coords.system l.self.entries.now) (below l.tet))

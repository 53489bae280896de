-- The weights of the classes so far.
use Rattle.std.proofs.Common.{◌≡◌}
use Rattle.std.specs.Prelude.{sum_by}
use Rattle.table_definitions.specs.Lists.{below}
use Rattle.table_definitions.specs.Classes.{least}
use Rattle.surface_definitions.specs.Characteristic.{weight}
use Rattle.surface_properties.specs.Capped.{capped}
use Rattle.surface_properties.proofs.vectors.DiscVector.points.Given as goal

abbrev pub invariant-loop-class : goal.invariant-loop-class
invariant-loop-class l = l.total ≡ capped (sum_by (λ c. weight l.self.coords.system l.self.entries.now (least l.skeleton.edges.classes c)) (below l.class))

-- The numbers so far, and how many stayed.
use Rattle.std.proofs.Common.{◌≡◌}
use Rattle.surface_definitions.specs.Crushing.{number_kept}
use Rattle.crushing.specs.Rows.{AreNewNumbers}
use Rattle.crushing.proofs.surface.StandardSurface.new_numbers.Given as goal

abbrev pub invariant-loop-tet : goal.invariant-loop-tet
invariant-loop-tet l = AreNewNumbers l.self.entries.now l.numbers.items l.tet × (l.kept ≡ number_kept l.self.entries.now l.tet)

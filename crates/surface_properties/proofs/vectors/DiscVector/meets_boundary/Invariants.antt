-- No boundary face so far has an arc.
use Rattle.std.proofs.Common.{◌≡◌, ℕ, ◌<◌, None}
use Rattle.table_definitions.specs.Table.{glue}
use Rattle.table_definitions.specs.Places.{face_of}
use Rattle.surface_definitions.specs.Characteristic.{arcs_in}
use Rattle.surface_properties.proofs.vectors.DiscVector.meets_boundary.Given as goal

abbrev pub invariant-loop-place : goal.invariant-loop-place
invariant-loop-place l = (i : ℕ) → i < l.place → glue l.self.table.now (face_of i) ≡ None → arcs_in l.self.coords.system l.self.entries.now (face_of i) ≡ 0

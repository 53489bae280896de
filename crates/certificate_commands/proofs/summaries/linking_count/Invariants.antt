-- The linking surfaces so far are counted.
use Rattle.std.proofs.Common.{◌≡◌, take}
use Rattle.std.specs.Prelude.{count_by}
use Rattle.surface_definitions.specs.Characteristic.{is_linking}
use Rattle.surface_definitions.specs.declared.Coords.TheVariants.{Standard}
use Rattle.certificate_commands.proofs.summaries.linking_count.Given as goal

abbrev pub invariant-loop-ray : goal.invariant-loop-ray
invariant-loop-ray l = l.count ≡ count_by (is_linking Standard) (take l.ray-index l.list)

-- The rows so far.
use Rattle.std.proofs.Common.{◌≡◌, map, take}
use Rattle.component_signature.specs.Components.{row_of}
use Rattle.component_signature.proofs.renumbered.renumbered_rows.Given as goal

abbrev pub invariant-loop-tet : goal.invariant-loop-tet
invariant-loop-tet l = l.new.items ≡ map (row_of l.table l.numbers) (take l.tet-index l.numbers)

-- No face that was read is glued to the target.
use Rattle.std.proofs.Common.{◌≡◌, ℕ, ◌<◌, None}
use Rattle.std.specs.Prelude.{option_and_then}
use Rattle.std.specs.List.{slice_index_or}
use Rattle.table_definitions.specs.Replacing.{inverse_if_reached}
use Rattle.gluing_table.proofs.replacing.back_to_row.Given as goal

abbrev pub invariant-loop-face : goal.invariant-loop-face
invariant-loop-face l = (k : ℕ) → k < l.face → option_and_then (inverse_if_reached l.target (record { tet = l.number; face = k })) (slice_index_or l.row k None) ≡ None

use Rattle.std.proofs.Common.{◌≡◌}
use Rattle.signature_text_laws.specs.Slots.{slot_rows}
use Rattle.signature_codec.proofs.slots.rows_of.Given as goal

abbrev pub invariant-loop-tet : goal.invariant-loop-tet
invariant-loop-tet l = l.rows.items ≡ slot_rows l.tet l.read_faces

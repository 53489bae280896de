use Rattle.std.proofs.Common.{◌≡◌, ◌-◌, ◌*◌}
use Rattle.signature_text_laws.specs.Slots.{slot_faces}
use Rattle.signature_codec.specs.Views.{slots_view}
use Rattle.signature_codec.proofs.joining.Joining.join_faces.Given as goal

abbrev pub invariant-loop-place : goal.invariant-loop-place
invariant-loop-place l =
    (l.places ≡ 4 * l.fn.self.parts.now.count)
    × (slot_faces (l.places - l.place) l.place (slots_view l.self) ≡ slot_faces (4 * l.fn.self.parts.now.count) 0 (slots_view l.fn.self))

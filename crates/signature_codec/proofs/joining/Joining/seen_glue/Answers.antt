-- The next destination and gluing are used.
use Rattle.std.proofs.Common.{◌≡◌, ◌<◌, ℕ, true, false, drop, sym, ap, subst, ◌∙◌}
use Rattle.std.specs.Prelude.{is_some, ◌||◌}
use Rattle.table_definitions.specs.Table.{same_face}
use Rattle.signature_definitions.specs.SignatureText as signatures
use Rattle.signature_text_laws.specs.Slots.{slot}
use Rattle.signature_codec.specs.Views.{slots_view}
use Rattle.signature_codec.proofs.SeenJoined.{too_far, face_taken, face_met, first_small, or_next}
use Rattle.signature_codec.proofs.joining.Joining.seen_glue.Goals as goal
use Rattle.signature_codec.proofs.joining.Joining.seen_glue.Goals.{then-same_face-via-then-same_face, then-same_face-via-else-same_face+then-is_some}

pub returns-then-tet-self : goal.returns-then-tet-self
returns-then-tet-self c =
    let u = c.args.self.now.seen_used in
    λ other. too_far c.args.face (slots_view c.args.self.now) c.pair_at-tet.result c.pair_at-index.result
    (c.pair_at-tet.ensures ∙ ap (λ xs. signatures.first_pair (drop u xs)) c.deref.ensures.value)
    (c.pair_at-index.ensures ∙ ap (λ xs. signatures.first_pair (drop u xs)) c.deref-2.ensures.value)
    c.if-tet-self.true

pub perm_at-requires : goal.perm_at-requires
perm_at-requires c =
    let u = c.args.self.now.seen_used in
    let P : ℕ × ℕ → Type 0 = λ i. i.0 < 24 in
    subst P (sym (c.pair_at-index.ensures ∙ ap (λ xs. signatures.first_pair (drop u xs)) c.deref-2.ensures.value)) (first_small (drop u c.args.self.now.parts.now.gluings.items) c.args.self.now.slots.indices)

pub returns-then-same_face : goal.returns-then-same_face
returns-then-same_face c =
    let u = c.args.self.now.seen_used in
    let x = c.args.face in
    let other = c.other_side-other.result in
    let read_faces = c.args.self.now.read_faces.items in
    let taken : (same_face other x || is_some (slot read_faces other)) ≡ true = elim c.then-same_face.branch [
      | then-same_face-via-then-same_face w ↦ ap (λ q. q || is_some (slot read_faces other)) (sym c.same_face.ensures ∙ w.if-same_face.true)
      | then-same_face-via-else-same_face+then-is_some w ↦ or_next (same_face other x) (is_some (slot read_faces other)) true (sym c.same_face.ensures ∙ w.if-same_face.false)
          (sym (w.is_some.ensures ∙ ap is_some (w.slot.ensures ∙ ap (λ m. slot m other) w.deref-else-same_face.ensures.value)) ∙ w.if-is_some.true)
    ] in
    λ no_want. face_taken x (slots_view c.args.self.now) c.pair_at-tet.result c.pair_at-index.result
    (c.pair_at-tet.ensures ∙ ap (λ xs. signatures.first_pair (drop u xs)) c.deref.ensures.value)
    (c.pair_at-index.ensures ∙ ap (λ xs. signatures.first_pair (drop u xs)) c.deref-2.ensures.value)
    c.if-tet-self.false c.perm_at.result other c.perm_at.ensures c.other_side-other.ensures.value taken

pub returns : goal.returns
returns c =
    let u = c.args.self.now.seen_used in
    let x = c.args.face in
    let other = c.other_side-other.result in
    let read_faces = c.args.self.now.read_faces.items in
    let free : (same_face other x || is_some (slot read_faces other)) ≡ false = or_next (same_face other x) (is_some (slot read_faces other)) false (sym c.same_face.ensures ∙ c.if-same_face.false)
    (sym (c.is_some.ensures ∙ ap is_some (c.slot.ensures ∙ ap (λ m. slot m other) c.deref-else-same_face.ensures.value)) ∙ c.if-is_some.false) in
    face_met x (slots_view c.args.self.now) c.pair_at-tet.result c.pair_at-index.result
    (c.pair_at-tet.ensures ∙ ap (λ xs. signatures.first_pair (drop u xs)) c.deref.ensures.value)
    (c.pair_at-index.ensures ∙ ap (λ xs. signatures.first_pair (drop u xs)) c.deref-2.ensures.value)
    c.if-tet-self.false c.perm_at.result other c.perm_at.ensures c.other_side-other.ensures.value free

-- A face is joined by the next type, unless it was read.
use Rattle.std.proofs.Common.{◌≡◌, ℕ, ◌+◌, ◌<◌, ◌≤◌, length, drop, false, refl, sym, ap, subst, ◌∙◌, arith}
use Rattle.std.specs.Prelude.{Result, is_some, Some, None, slice_set, Ok}
use Rattle.std.specs.Vec.{with_items}
use Rattle.std.proofs.lemmas.List.{drop_all, drop-drop, with_items_is}
use Rattle.std.proofs.lemmas.Result.{err_from_is_err_and}
use Rattle.table_definitions.specs.Table.{Face, face_number}
use Rattle.signature_definitions.specs.declared.SigFault.{SigFault}
use Rattle.signature_text_laws.specs.Faults.{Fails}
use Rattle.signature_text_laws.specs.Slots.{Slots, slot, meet_at, slot_next}
use Rattle.signature_codec.specs.Views.{slots_view}
use Rattle.signature_codec.proofs.FacesJoined.{face_typed, unseen, passed, met_already, at_boundary, at_new, at_glued, seen_refused, kept_next, one_left}
use Rattle.signature_codec.proofs.joining.Joining.join_face.Goals as goal
use Rattle.signature_codec.proofs.joining.Joining.join_face.Goals.{then-self-len-via-then-self-len, then-self-len-via-else-self-len+then-is_some}

pub returns-then-face-self : goal.returns-then-face-self
returns-then-face-self c = λ no_want. unseen c.args.face (slots_view c.args.self.now) (subst (λ (x : Face). c.args.self.now.seen ≤ x.tet) c.face.view_is c.if-face-self.true)

pub returns-then-self-len : goal.returns-then-self-len
returns-then-self-len c =
    let s = slots_view c.args.self.now in
    let next : slot_next c.args.face s.parts.types s ≡ Ok s = elim c.then-self-len.branch [
      | then-self-len-via-then-self-len w ↦ ap (λ types. slot_next c.args.face types s) (drop_all c.args.self.now.types_used c.args.self.now.parts.now.types.items (omega (arith, w.if-self-len.true)))
      | then-self-len-via-else-self-len+then-is_some w ↦ met_already c.args.face s.parts.types s
          (sym (w.is_some.ensures ∙ ap is_some (w.slot.ensures ∙ ap (λ m. slot m c.args.face) w.deref.ensures.value)) ∙ w.if-is_some.true)
    ] in
    passed c.args.face s (subst (λ (x : Face). x.tet < c.args.self.now.seen) c.face.view_is c.if-face-self.false) ∙ next

pub index-kind-requires : goal.index-kind-requires
index-kind-requires c = subst (λ (n : ℕ). c.args.self.now.types_used < n) c.len.ensures c.if-self-len.false

pub invariant_of-self : goal.invariant_of-self
invariant_of-self c =
    let s = slots_view c.args.self.now in
    let some : c.args.self.now.types_used < length c.args.self.now.parts.now.types.items = omega (arith, c.if-self-len.false, c.len.ensures, c.args.self.now.parts.now.types.ok) in
    let read_faces : (with_items c.args.self.now.read_faces c.set_slot.new.read_faces).items ≡ slice_set s.read_faces (face_number c.args.face) (Some None) = with_items_is c.args.self.now.read_faces c.set_slot.new.read_faces (c.set_slot.auto.read_faces ∙ c.deref_mut.ensures.len) ∙ c.set_slot.ensures ∙ ap (λ m. slice_set m (face_number c.args.face) (Some None)) c.deref_mut.ensures.value in
    let joined = at_boundary c.args.face c.index-kind.result.now (drop (c.args.self.now.types_used + 1) c.args.self.now.parts.now.types.items) s (with_items c.args.self.now.read_faces c.set_slot.new.read_faces).items c.if-kind-eq0.true read_faces in
    record { slots = kept_next c.args.self.now.parts.now.count c.args.self.now.types_used c.index-kind.result.now c.args.face c.args.self.now.parts.now.types.items s _ c.args.self.now.slots some c.index-kind.ensures joined }

pub returns-then-kind-eq0 : goal.returns-then-kind-eq0
returns-then-kind-eq0 c =
    let s = slots_view c.args.self.now in
    let some : c.args.self.now.types_used < length c.args.self.now.parts.now.types.items = omega (arith, c.if-self-len.false, c.len.ensures, c.args.self.now.parts.now.types.ok) in
    let seen : c.args.face.tet < c.args.self.now.seen = subst (λ (x : Face). x.tet < c.args.self.now.seen) c.face.view_is c.if-face-self.false in
    let unmet : is_some (slot c.args.self.now.read_faces.items c.args.face) ≡ false =
    ap (λ read_faces. is_some (slot read_faces c.args.face)) (sym c.deref.ensures.value) ∙ ap is_some (sym c.slot.ensures) ∙ sym c.if-is_some.ensures in
    let read_faces : (with_items c.args.self.now.read_faces c.set_slot.new.read_faces).items ≡ slice_set s.read_faces (face_number c.args.face) (Some None) = with_items_is c.args.self.now.read_faces c.set_slot.new.read_faces (c.set_slot.auto.read_faces ∙ c.deref_mut.ensures.len) ∙ c.set_slot.ensures ∙ ap (λ m. slice_set m (face_number c.args.face) (Some None)) c.deref_mut.ensures.value in
    let joined = at_boundary c.args.face c.index-kind.result.now (drop (c.args.self.now.types_used + 1) c.args.self.now.parts.now.types.items) s (with_items c.args.self.now.read_faces c.set_slot.new.read_faces).items c.if-kind-eq0.true read_faces in
    face_typed c.args.face c.args.self.now.types_used c.index-kind.result.now c.args.self.now.parts.now.types.items s refl seen some c.index-kind.ensures unmet ∙ joined

pub invariant_of-self-then-kind-eq1 : goal.invariant_of-self-then-kind-eq1
invariant_of-self-then-kind-eq1 c =
    let s = slots_view c.args.self.now in
    let some : c.args.self.now.types_used < length c.args.self.now.parts.now.types.items = omega (arith, c.if-self-len.false, c.len.ensures, c.args.self.now.parts.now.types.ok) in
    let read_faces : (with_items c.args.self.now.read_faces c.meet.new.read_faces).items ≡ meet_at s.read_faces c.args.face (record { tet = c.args.self.now.seen; perm = c.perm_at.result }) = with_items_is c.args.self.now.read_faces c.meet.new.read_faces (c.meet.auto.read_faces ∙ c.deref_mut-then-kind-eq1.ensures.len) ∙ c.meet.ensures ∙ ap (λ m. meet_at m c.args.face (record { tet = c.args.self.now.seen; perm = c.perm_at.result })) c.deref_mut-then-kind-eq1.ensures.value in
    let joined = at_new c.args.face c.index-kind.result.now (drop (c.args.self.now.types_used + 1) c.args.self.now.parts.now.types.items) s (with_items c.args.self.now.read_faces c.meet.new.read_faces).items c.perm_at.result c.if-kind-eq1.true c.perm_at.ensures read_faces in
    record { slots = kept_next c.args.self.now.parts.now.count c.args.self.now.types_used c.index-kind.result.now c.args.face c.args.self.now.parts.now.types.items s _ c.args.self.now.slots some c.index-kind.ensures joined }

pub returns-then-kind-eq1 : goal.returns-then-kind-eq1
returns-then-kind-eq1 c =
    let s = slots_view c.args.self.now in
    let some : c.args.self.now.types_used < length c.args.self.now.parts.now.types.items = omega (arith, c.if-self-len.false, c.len.ensures, c.args.self.now.parts.now.types.ok) in
    let seen : c.args.face.tet < c.args.self.now.seen = subst (λ (x : Face). x.tet < c.args.self.now.seen) c.face.view_is c.if-face-self.false in
    let unmet : is_some (slot c.args.self.now.read_faces.items c.args.face) ≡ false =
    ap (λ read_faces. is_some (slot read_faces c.args.face)) (sym c.deref.ensures.value) ∙ ap is_some (sym c.slot.ensures) ∙ sym c.if-is_some.ensures in
    let read_faces : (with_items c.args.self.now.read_faces c.meet.new.read_faces).items ≡ meet_at s.read_faces c.args.face (record { tet = c.args.self.now.seen; perm = c.perm_at.result }) = with_items_is c.args.self.now.read_faces c.meet.new.read_faces (c.meet.auto.read_faces ∙ c.deref_mut-then-kind-eq1.ensures.len) ∙ c.meet.ensures ∙ ap (λ m. meet_at m c.args.face (record { tet = c.args.self.now.seen; perm = c.perm_at.result })) c.deref_mut-then-kind-eq1.ensures.value in
    let joined = at_new c.args.face c.index-kind.result.now (drop (c.args.self.now.types_used + 1) c.args.self.now.parts.now.types.items) s (with_items c.args.self.now.read_faces c.meet.new.read_faces).items c.perm_at.result c.if-kind-eq1.true c.perm_at.ensures read_faces in
    face_typed c.args.face c.args.self.now.types_used c.index-kind.result.now c.args.self.now.parts.now.types.items s refl seen some c.index-kind.ensures unmet ∙ joined

pub returns-in_err-glue : goal.returns-in_err-glue
returns-in_err-glue c =
    let p = err_from_is_err_and c.from_residual.result c.from_residual.ensures.1 in
    let e = c.in_err-glue.field-0.0 in
    let P : Result Slots SigFault → Type 0 = λ q. Fails e q in
    let s = slots_view c.args.self.now in
    let some : c.args.self.now.types_used < length c.args.self.now.parts.now.types.items = omega (arith, c.if-self-len.false, c.len.ensures, c.args.self.now.parts.now.types.ok) in
    let seen : c.args.face.tet < c.args.self.now.seen = subst (λ (x : Face). x.tet < c.args.self.now.seen) c.face.view_is c.if-face-self.false in
    let unmet : is_some (slot c.args.self.now.read_faces.items c.args.face) ≡ false =
    ap (λ read_faces. is_some (slot read_faces c.args.face)) (sym c.deref.ensures.value) ∙ ap is_some (sym c.slot.ensures) ∙ sym c.if-is_some.ensures in
    let typed = face_typed c.args.face c.args.self.now.types_used c.index-kind.result.now c.args.self.now.parts.now.types.items s refl seen some c.index-kind.ensures unmet in
    rw (p.1, p.2) (subst P (sym typed) (λ other. seen_refused c.args.face c.index-kind.result.now (drop (c.args.self.now.types_used + 1) c.args.self.now.parts.now.types.items) s e c.if-kind-eq0.false c.if-kind-eq1.false (c.in_err-glue.ensures other)))

pub overflow_add-self-2 : goal.overflow_add-self-2
overflow_add-self-2 c =
    let s = slots_view c.args.self.now in
    let some : c.args.self.now.types_used < length c.args.self.now.parts.now.types.items = omega (arith, c.if-self-len.false, c.len.ensures, c.args.self.now.parts.now.types.ok) in
    let left : c.args.self.now.seen_used < length c.args.self.now.parts.now.destinations.items =
    one_left c.args.self.now.parts.now.count c.args.self.now.types_used c.index-kind.result.now c.args.self.now.seen_used c.args.self.now.parts.now.types.items c.args.self.now.parts.now.destinations.items s c.args.self.now.slots some
    c.index-kind.ensures c.if-kind-eq0.false c.if-kind-eq1.false refl in
    omega (arith, left, c.args.self.now.parts.now.destinations.ok, c.args.self.now.parts.now.destinations.small)

pub invariant_of-self-2 : goal.invariant_of-self-2
invariant_of-self-2 c =
    let s = slots_view c.args.self.now in
    let some : c.args.self.now.types_used < length c.args.self.now.parts.now.types.items = omega (arith, c.if-self-len.false, c.len.ensures, c.args.self.now.parts.now.types.ok) in
    let read_faces : (with_items c.args.self.now.read_faces c.meet-2.new.read_faces).items ≡ meet_at s.read_faces c.args.face c.in_ok-glue.glue = with_items_is c.args.self.now.read_faces c.meet-2.new.read_faces (c.meet-2.auto.read_faces ∙ c.deref_mut-2.ensures.len) ∙ c.meet-2.ensures ∙ ap (λ m. meet_at m c.args.face c.in_ok-glue.glue) c.deref_mut-2.ensures.value in
    let u = c.args.self.now.seen_used in
    let joined = at_glued c.args.face c.index-kind.result.now (drop (c.args.self.now.types_used + 1) c.args.self.now.parts.now.types.items) s c.in_ok-glue.glue (with_items c.args.self.now.read_faces c.meet-2.new.read_faces).items (drop (u + 1) c.args.self.now.parts.now.destinations.items) (drop (u + 1) c.args.self.now.parts.now.gluings.items)
    c.if-kind-eq0.false c.if-kind-eq1.false c.in_ok-glue.ensures read_faces (sym (drop-drop 1 u c.args.self.now.parts.now.destinations.items)) (sym (drop-drop 1 u c.args.self.now.parts.now.gluings.items)) in
    record { slots = kept_next c.args.self.now.parts.now.count c.args.self.now.types_used c.index-kind.result.now c.args.face c.args.self.now.parts.now.types.items s _ c.args.self.now.slots some c.index-kind.ensures joined }

pub returns : goal.returns
returns c =
    let s = slots_view c.args.self.now in
    let some : c.args.self.now.types_used < length c.args.self.now.parts.now.types.items = omega (arith, c.if-self-len.false, c.len.ensures, c.args.self.now.parts.now.types.ok) in
    let seen : c.args.face.tet < c.args.self.now.seen = subst (λ (x : Face). x.tet < c.args.self.now.seen) c.face.view_is c.if-face-self.false in
    let unmet : is_some (slot c.args.self.now.read_faces.items c.args.face) ≡ false =
    ap (λ read_faces. is_some (slot read_faces c.args.face)) (sym c.deref.ensures.value) ∙ ap is_some (sym c.slot.ensures) ∙ sym c.if-is_some.ensures in
    let read_faces : (with_items c.args.self.now.read_faces c.meet-2.new.read_faces).items ≡ meet_at s.read_faces c.args.face c.in_ok-glue.glue = with_items_is c.args.self.now.read_faces c.meet-2.new.read_faces (c.meet-2.auto.read_faces ∙ c.deref_mut-2.ensures.len) ∙ c.meet-2.ensures ∙ ap (λ m. meet_at m c.args.face c.in_ok-glue.glue) c.deref_mut-2.ensures.value in
    let u = c.args.self.now.seen_used in
    let joined = at_glued c.args.face c.index-kind.result.now (drop (c.args.self.now.types_used + 1) c.args.self.now.parts.now.types.items) s c.in_ok-glue.glue (with_items c.args.self.now.read_faces c.meet-2.new.read_faces).items (drop (u + 1) c.args.self.now.parts.now.destinations.items) (drop (u + 1) c.args.self.now.parts.now.gluings.items)
    c.if-kind-eq0.false c.if-kind-eq1.false c.in_ok-glue.ensures read_faces (sym (drop-drop 1 u c.args.self.now.parts.now.destinations.items)) (sym (drop-drop 1 u c.args.self.now.parts.now.gluings.items)) in
    face_typed c.args.face c.args.self.now.types_used c.index-kind.result.now c.args.self.now.parts.now.types.items s refl seen some c.index-kind.ensures unmet ∙ joined

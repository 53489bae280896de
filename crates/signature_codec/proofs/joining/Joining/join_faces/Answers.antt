use Rattle.std.proofs.Common.{◌≡◌, ◌+◌, ◌*◌, ◌-◌, suc, arith, sym, ◌∙◌, subst}
use Rattle.std.specs.Prelude.{Result}
use Rattle.std.proofs.lemmas.Result.{err_from_is_err_and}
use Rattle.signature_definitions.specs.declared.SigFault.{SigFault}
use Rattle.signature_text_laws.specs.Faults.{Fails}
use Rattle.signature_text_laws.specs.Slots.{Slots}
use Rattle.signature_text_laws.proofs.SlotLaws.{slot_faces-more, slot_faces-end, slot_faces-wrong}
use Rattle.signature_codec.proofs.joining.Joining.join_faces.Goals as goal

pub returns-in_err-join_face : goal.returns-in_err-join_face
returns-in_err-join_face c =
    let p = err_from_is_err_and c.from_residual.result c.from_residual.ensures.1 in
    let e = c.in_err-join_face.field-0.0 in
    let n = 4 * c.args.self.now.parts.now.count in
    let P : Result Slots SigFault → Type 0 = λ q. Fails e q in
    let more : n - c.loop-place.place ≡ suc (n - (c.loop-place.place + 1)) = omega arith in
    rw (p.1, p.2) (subst P c.loop-place.invariant.1 (slot_faces-wrong _ _ _ _ e more c.in_err-join_face.ensures))

pub loop-place-preserved : goal.loop-place-preserved
loop-place-preserved c =
    let n = 4 * c.args.self.now.parts.now.count in
    let more : n - c.loop-place.place ≡ suc (n - (c.loop-place.place + 1)) = omega arith in
    (c.loop-place.invariant.0, slot_faces-more _ _ c.loop-place.place _ _ more c.in_ok-join_face.ensures ∙ c.loop-place.invariant.1)

pub returns : goal.returns
returns c =
    let none : 4 * c.args.self.now.parts.now.count - c.loop-place.place ≡ 0 = omega arith in
    sym c.loop-place.invariant.1 ∙ slot_faces-end _ _ _ none

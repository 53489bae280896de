-- One more signature, after a full stop.
use Rattle.std.proofs.Common.{◌<◌, ◌++◌, List, ℕ, length, ap, sym, ◌∙◌, arith}
use Rattle.component_signature.specs.declared.order.PartSignature.{PartSignature}
use Rattle.component_signature.proofs.JoinedText.{first_joined, one_joined, all_joined}
use Rattle.component_signature.proofs.signatures.join_signatures.Goals as goal

pub loop-place-init : goal.loop-place-init
loop-place-init c =
    c.in_ok-append-2.ensures.ok ∙ ap (λ (t : List ℕ). t ++ c.deref.result.now) c.new-text.ensures.items ∙ c.deref.ensures.value ∙ ap (λ (s : PartSignature). s.signature.items) (sym c.index-signed-0.is)
    ∙ first_joined c.args.signed.now c.index-signed-0.result (let h = c.is_empty.ensures in let f = c.if-is_empty.false in grind arith) c.index-signed-0.is

pub loop-place-preserved : goal.loop-place-preserved
loop-place-preserved c =
    one_joined c.args.signed.now c.loop-place.place c.index-signed-place.result c.loop-place.text.items c.append-in-loop-place.new.out.items c.append-in-loop-place-2.new.out.items
    (let p = c.loop-place.auto.place in omega (arith, p)) c.loop-place-test.true c.index-signed-place.is c.loop-place.invariant c.in_ok-append-3.ensures.ok
    (c.in_ok-append-4.ensures.ok ∙ ap (λ (t : List ℕ). c.append-in-loop-place.new.out.items ++ t) (c.deref-in-loop-place.ensures.value ∙ ap (λ (s : PartSignature). s.signature.items) (sym c.index-signed-place.is)))

pub returns : goal.returns
returns c =
    let some : 0 < length c.args.signed.now = (let h = c.is_empty.ensures in let f = c.if-is_empty.false in grind arith) in
    all_joined c.args.signed.now c.loop-place.place c.loop-place.text.items c.loop-place-test.false (c.loop-place.auto.place-end some) c.loop-place.invariant

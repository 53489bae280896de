-- The signature of one more component.
use Rattle.std.proofs.Common.{subst, sym, refl, ◌∙◌, arith}
use Rattle.table_definitions.specs.Places.{IsConnected}
use Rattle.signature_definitions.specs.Spelling.{IsSignature}
use Rattle.component_definitions.specs.Parts.{Part}
use Rattle.component_signature.proofs.Signing.{none_signed, one_signed, all_signed}
use Rattle.component_signature.proofs.order.sign_parts.Goals as goal

pub loop-number-init : goal.loop-number-init
loop-number-init c = none_signed c.args.parts.now c.in_ok-signed.signed.items c.in_ok-signed.ensures.items

pub signature_of_connected-requires : goal.signature_of_connected-requires
signature_of_connected-requires c =
    subst (λ (p : Part). IsConnected p.rows) (sym (c.part.view_is ∙ c.index-parts-number.is)) (c.requires c.loop-number.number c.index-parts-number.result c.loop-number-test.true)

pub loop-number-preserved : goal.loop-number-preserved
loop-number-preserved c =
    one_signed c.args.parts.now c.loop-number.number c.index-parts-number.result c.loop-number.signed.items c.push.new.self.items _ c.loop-number-test.true c.index-parts-number.is
    (subst (λ (p : Part). IsSignature p.rows c.in_ok-signature.signature.items) c.part.view_is c.in_ok-signature.ensures) refl c.in_ok-push.ensures.items c.loop-number.invariant

pub returns : goal.returns
returns c = all_signed c.args.parts.now c.loop-number.number _ (omega (arith, c.loop-number-test.false, c.loop-number.auto.number-end)) c.loop-number.invariant

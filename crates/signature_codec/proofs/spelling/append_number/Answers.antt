use Rattle.std.proofs.Common.{◌≡◌, ◌-◌, ◌+◌, suc, arith, ◌∙◌, sym}
use Rattle.signature_text_laws.proofs.TextLaws.{number_text-more, number_text-none}
use Rattle.signature_codec.proofs.spelling.append_number.Goals as goal

pub loop-place-preserved : goal.loop-place-preserved
loop-place-preserved c =
    let more : c.args.width - c.loop-place._place ≡ suc (c.args.width - (c.loop-place._place + 1)) = omega arith in
    rw (c.in_ok-push.ensures.items, c.character.ensures) (number_text-more _ _ c.loop-place.left c.loop-place.text.items more ∙ c.loop-place.invariant)

pub returns : goal.returns
returns c =
    let none : c.args.width - c.loop-place._place ≡ 0 = omega arith in
    sym (number_text-none _ c.loop-place.left c.loop-place.text.items none) ∙ c.loop-place.invariant

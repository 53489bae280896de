use Rattle.std.proofs.Common.{◌≡◌, ◌+◌, ◌↔◌, true, subst, sym}
use Rattle.std.proofs.lemmas.List.{get_or_default}
use Rattle.ray_steps.specs.declared.signs.Sign.{Sign}
use Rattle.ray_steps.specs.declared.signs.Sign.TheVariants.{Zero}
use Rattle.ray_steps.specs.Negatives.{AreNegativeFlags}
use Rattle.ray_steps.specs.Signs.{IsNegative}
use Rattle.ray_steps.proofs.NegativeLemmas.{tell_none, tell_push}
use Rattle.ray_steps.proofs.negatives.are_negative.Goals as goal

pub loop-sign-init : goal.loop-sign-init
loop-sign-init c = subst (AreNegativeFlags c.args.signs.now 0) (sym c.in_ok-flags.ensures.items) (tell_none c.args.signs.now)

pub loop-sign-preserved : goal.loop-sign-preserved
loop-sign-preserved c =
    let signs = c.args.signs.now in
    let n = c.loop-sign.sign-index in
    let both = c.is_negative.ensures in
    subst (AreNegativeFlags signs (n + 1)) (sym c.in_ok-push.ensures.items)
    (tell_push signs n c.loop-sign.flags.items c.is_negative.result c.loop-sign.invariant
    (subst (λ (s : Sign). IsNegative s ↔ (c.is_negative.result ≡ true)) (get_or_default signs n _ Zero c.loop-sign-test.true) (λ h. both.1 h, λ h. both.0 h)))

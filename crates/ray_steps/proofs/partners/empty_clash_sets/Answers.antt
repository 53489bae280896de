use Rattle.std.proofs.Common.{[], arith, length-append, ◌∷◌, subst, sym}
use Rattle.ray_steps.specs.Partners.{IsClashSetOf}
use Rattle.ray_steps.proofs.PartnerLemmas.{partner_none, partners_push}
use Rattle.ray_steps.proofs.partners.empty_clash_sets.Goals as goal

pub loop-number-preserved : goal.loop-number-preserved
loop-number-preserved c =
    let old = c.loop-number.partners.items in
    let e = c.in_ok-push.ensures.items in
    let n = length-append old (c.in_ok-none.field-0 ∷ []) in
    let last = subst (IsClashSetOf c.args.columns [] c.loop-number._number) (sym c.in_ok-none.ensures) (partner_none c.args.columns c.loop-number._number) in
    record {
      count = rw e (omega (arith, n, c.loop-number.invariant.count));
      each = rw e (partners_push c.args.columns [] old c.in_ok-none.field-0 c.loop-number._number c.loop-number.invariant.count c.loop-number.invariant.each last);
    }

-- One more index.
use Rattle.std.proofs.Common.{◌≡◌, sym, subst₂, refl, ◌∙◌, arith}
use Rattle.std.specs.Prelude.{nat_eq, not}
use lib.Pointwise.{pointwise}
use Rattle.component_signature.specs.declared.order.PartSignature.{PartSignature}
use Rattle.component_signature.proofs.Agreeing.{agree_more, agree_not, agree_all}
use Rattle.component_signature.proofs.matches.agree.Goals as goal

pub loop-place-init : goal.loop-place-init
loop-place-init c k l = absurd (omega arith)

pub returns-then-ne : goal.returns-then-ne
returns-then-ne c = (
  λ f. cc,
  λ e. absurd (agree_not c.args.first.now c.args.second.now c.loop-place.place c.index-first-place.result c.index-second-place.result c.loop-place-test.true c.if-first-second.false c.index-first-place.is c.index-second-place.is
      (sym c.if-ne.true ∙ c.ne.ensures ∙ subst₂ (λ (s t : PartSignature). not (pointwise nat_eq s.signature.items t.signature.items) ≡ not (pointwise nat_eq c.index-first-place.result.signature.items c.index-second-place.result.signature.items)) c.index-first-place.is c.index-second-place.is refl) e),
)

pub loop-place-preserved : goal.loop-place-preserved
loop-place-preserved c =
    agree_more c.args.first.now c.args.second.now c.loop-place.place c.index-first-place.result c.index-second-place.result c.loop-place-test.true c.if-first-second.false c.index-first-place.is c.index-second-place.is
    (sym c.if-ne.false ∙ c.ne.ensures ∙ subst₂ (λ (s t : PartSignature). not (pointwise nat_eq s.signature.items t.signature.items) ≡ not (pointwise nat_eq c.index-first-place.result.signature.items c.index-second-place.result.signature.items)) c.index-first-place.is c.index-second-place.is refl)
    c.loop-place.invariant

pub returns : goal.returns
returns c = (
  λ t. agree_all c.args.first.now c.args.second.now c.loop-place.place (omega (arith, c.loop-place-test.false, c.loop-place.auto.place-end)) c.if-first-second.false c.loop-place.invariant,
  λ e. refl,
)

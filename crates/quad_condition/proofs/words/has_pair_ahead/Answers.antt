use Rattle.std.proofs.Common.{◌≡◌, ℕ, refl, sym, ◌∙◌, arith}
use Rattle.std.proofs.Math.Facts.{Fits-lt-pow}
use Rattle.std.proofs.lemmas.Nat.{or_lt}
use Rattle.std.proofs.lemmas.Bool.{false≢true}
use Rattle.quad_condition.proofs.BitLemmas.{pair_word, pair_at, no_pair, pair_is, below_and_at}
use Rattle.quad_condition.proofs.words.has_pair_ahead.Goals as goal

pub returns-then-mask-k-ne0 : goal.returns-then-mask-k-ne0
returns-then-mask-k-ne0 c =
    let k : ℕ = c.loop-k.k in
    let is = pair_is c.args.mask.now c.args.a.now c.args.b.now c.args.distance k _ _ _ c.either-here.ensures c.either-next.ensures c.ahead.ensures in (
      (λ _. pair_at c.args.mask.now c.args.a.now c.args.b.now c.args.distance k (Fits-lt-pow (c.type_inv.mask k)) (or_lt 64 _ _ (Fits-lt-pow (c.type_inv.a k)) (Fits-lt-pow (c.type_inv.b k)))
          c.requires.some c.requires.limited (λ z. c.if-mask-k-ne0.true (is ∙ z))),
      (λ _. refl),
    )

pub loop-k-preserved : goal.loop-k-preserved
loop-k-preserved c =
    let is = pair_is c.args.mask.now c.args.a.now c.args.b.now c.args.distance c.loop-k.k _ _ _ c.either-here.ensures c.either-next.ensures c.ahead.ensures in
    below_and_at (λ j. pair_word c.args.mask.now c.args.a.now c.args.b.now c.args.distance j ≡ 0) c.loop-k.k c.loop-k.invariant (sym is ∙ c.if-mask-k-ne0.false)

pub returns : goal.returns
returns c = (
  (λ h. absurd (false≢true h)),
  (λ h. absurd (no_pair c.args.mask.now c.args.a.now c.args.b.now c.args.distance (λ k. or_lt 64 _ _ (Fits-lt-pow (c.type_inv.a k)) (Fits-lt-pow (c.type_inv.b k)))
      c.requires.some c.requires.limited (λ k l. c.loop-k.invariant k (omega arith)) h)),
)

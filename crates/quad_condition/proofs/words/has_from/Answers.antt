use Rattle.std.proofs.Common.{◌≡◌, ℕ, ◌≤◌, get_or, bit_and, refl, sym, ap, ◌∙◌, arith}
use Rattle.std.proofs.Math.Facts.{Fits-lt-pow}
use Rattle.std.proofs.lemmas.Bool.{false≢true}
use Rattle.quad_condition.proofs.BitLemmas.{marked_word, from_at, none_from, below_and_at}
use Rattle.quad_condition.proofs.words.has_from.Goals as goal

pub returns-then-mask-k-ne0 : goal.returns-then-mask-k-ne0
returns-then-mask-k-ne0 c =
    let k : ℕ = c.loop-k.k in
    let low : c.args.from ≤ k = c.loop-k.auto.k in (
      (λ _. from_at c.args.mask.now c.args.a.now c.args.b.now c.args.from k (Fits-lt-pow (c.type_inv.mask k)) low (λ z. c.if-mask-k-ne0.true (ap (λ w. bit_and (get_or c.args.mask.now k 0) w) c.either.ensures ∙ z))),
      (λ _. refl),
    )

pub loop-k-preserved : goal.loop-k-preserved
loop-k-preserved c j low below =
    below_and_at (λ i. c.args.from ≤ i → marked_word c.args.mask.now c.args.a.now c.args.b.now i ≡ 0) c.loop-k.k (λ i l from. c.loop-k.invariant i from l)
    (λ _. ap (λ w. bit_and (get_or c.args.mask.now c.loop-k.k 0) w) (sym c.either.ensures) ∙ c.if-mask-k-ne0.false) j below low

pub returns : goal.returns
returns c = (
  (λ h. absurd (false≢true h)),
  (λ h. absurd (none_from c.args.mask.now c.args.a.now c.args.b.now c.args.from (λ k low l. c.loop-k.invariant k low (omega arith)) h)),
)

use Rattle.std.proofs.Common.{ℕ, get_or, bit_and, ⊎_elim, sym, ap, subst, ◌∙◌, arith}
use Rattle.std.proofs.Math.Facts.{Fits-lt-pow}
use Rattle.std.proofs.lemmas.Bool.{false≢true}
use Rattle.quad_condition.specs.Bits.{HasTwoBits}
use Rattle.quad_condition.proofs.BitLemmas.{none_two, two_in_word, one_and_later, two_at}
use Rattle.quad_condition.proofs.words.has_two.Goals as goal

pub returns-then-has_two_bits : goal.returns-then-has_two_bits
returns-then-has_two_bits c =
    let word = ap (λ w. bit_and (get_or c.args.mask.now c.loop-k.k 0) w) c.either.ensures in (
      (λ h. two_in_word c.args.mask.now c.args.a.now c.args.b.now c.loop-k.k (subst HasTwoBits word (c.has_two_bits.ensures.0 h))),
      (λ _. c.if-has_two_bits.true),
    )

pub returns-else-has_two_bits : goal.returns-else-has_two_bits
returns-else-has_two_bits c =
    let k : ℕ = c.loop-k.k in
    let word = ap (λ w. bit_and (get_or c.args.mask.now k 0) w) c.either.ensures in (
      (λ h. one_and_later c.args.mask.now c.args.a.now c.args.b.now k (Fits-lt-pow (c.type_inv.mask k)) (λ z. c.if-word-ne0.true (word ∙ z)) (c.has_from.ensures.0 h)),
      (λ z. ⊎_elim (λ two. absurd (false≢true (sym c.if-has_two_bits.false ∙ c.has_two_bits.ensures.1 (subst HasTwoBits (sym word) two)))) (λ later. c.has_from.ensures.1 later)
          (two_at c.args.mask.now c.args.a.now c.args.b.now k c.loop-k.invariant z)),
    )

pub returns : goal.returns
returns c = (
  (λ h. absurd (false≢true h)),
  (λ h. absurd (none_two c.args.mask.now c.args.a.now c.args.b.now (λ k l. c.loop-k.invariant k (omega arith)) h)),
)

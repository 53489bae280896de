use Rattle.std.proofs.Common.{ℕ, ◌+◌, refl, arith, subst, Vec, List}
use Rattle.std.specs.declared.alloc.Global.{Global}
use Rattle.std.proofs.lemmas.Bool.{false≢true}
use Rattle.quad_condition.specs.Bits.{HasPairAhead}
use Rattle.quad_condition.proofs.MarkLemmas.{any_default}
use Rattle.quad_condition.proofs.masks.has_pair_at_distance.Goals as goal

pub returns-then-has_pair_ahead : goal.returns-then-has_pair_ahead
returns-then-has_pair_ahead c = (
  (λ _. record {
    place = c.loop-k.k;
    in_range = omega arith;
    mask = c.index-near-k.result;
    is_mask = any_default c.args.near.now c.loop-k.k c.index-near-k.result (omega arith) c.index-near-k.is;
    pair = subst (λ (words : List ℕ). HasPairAhead words c.args.a.now c.args.b.now (c.loop-k.k + 1)) c.deref.ensures.value (c.if-has_pair_ahead.ensures.0 refl);
  }),
  (λ _. refl),
)

pub returns : goal.returns
returns c = (
  (λ h. absurd (false≢true h)),
  (λ h. absurd (c.loop-k.invariant h.place h.mask (omega (arith, h.in_range)) (subst (λ (v : Vec ℕ Global). HasPairAhead v.items c.args.a.now c.args.b.now (h.place + 1)) (h.is_mask h.mask) h.pair))),
)

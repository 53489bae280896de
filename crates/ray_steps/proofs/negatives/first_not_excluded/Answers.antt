use Rattle.std.proofs.Common.{◌≡◌, [], ⊎_elim, get_or, subst, arith}
use Rattle.std.proofs.lemmas.Bool.{cases_lt}
use Rattle.ray_steps.specs.Negatives.{IsRuledOut}
use Rattle.ray_steps.proofs.negatives.first_not_excluded.Goals as goal

pub loop-place-preserved : goal.loop-place-preserved
loop-place-preserved c =
    let place = c.loop-place.place in
    let supports = c.args.search.table.now.supports in
    let so_far = c.loop-place.invariant in
    record {
      least = omega (arith, so_far.least);
      within = omega (arith, c.len.ensures, c.loop-place-test.true);
      earlier = λ k low less. ⊎_elim
          (λ old. so_far.earlier k low old)
          (λ last. let e : place ≡ k = omega arith in subst (λ n. IsRuledOut c.args.search.support.now c.args.search.joined.now c.args.search.most (get_or supports n [])) e (c.is_excluded.ensures.0 c.if-not-is_excluded.false))
          (cases_lt k place);
    }

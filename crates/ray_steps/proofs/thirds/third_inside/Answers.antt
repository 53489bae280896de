use Rattle.std.proofs.Common.{◌≡◌, ◌<◌, ◌≤◌, ⊎_elim, get_or, ap, subst, sym, ◌∙◌, arith}
use Rattle.std.proofs.lemmas.Bool.{cases_lt, cases_eq, false≢true}
use Rattle.ray_steps.proofs.ReadLemmas.{fewer_left}
use Rattle.ray_steps.proofs.ThirdLemmas.{from_zero, within_supports, third_found, next_start, before_end}
use Rattle.ray_steps.proofs.thirds.third_inside.Goals as goal

pub loop-m-preserved : goal.loop-m-preserved
loop-m-preserved c =
    let places = c.args.pair.compatible_list.now.places.items in
    let m = c.loop-m.m in
    let next = c.first_covered-m-in-loop-m.ensures in
    let is : get_or c.as_slice-places.result.now m 0 ≡ get_or places m 0 = ap (λ ps. get_or ps m 0) c.as_slice-places.ensures.value in
    record {
      most = omega (arith, next.most, c.args.pair.count);
      inside = λ less. next.covered (omega (arith, c.args.pair.count));
      earlier = λ k less third. ⊎_elim
          (λ old. c.loop-m.invariant.earlier k old third)
          (λ from. ⊎_elim
          (λ same. let at = is ∙ sym (ap (λ n. get_or places n 0) same) in
          false≢true (sym c.if-is_third-2.false ∙ c.is_third-in-loop-m.ensures.1 ((λ e. third.0 (sym at ∙ e)), (λ e. third.1 (sym at ∙ e)))))
          (λ later. next.earlier k (omega arith) less third.2)
          (cases_eq k m))
          (cases_lt k m);
    }

pub is_covered-requires-clause-in_range : goal.is_covered-requires-clause-in_range
is_covered-requires-clause-in_range c = within_supports c.args.pair.compatible_list.now.places.items c.as_slice-places.result.now c.args.hint _ c.as_slice-places.ensures.value c.args.pair.count c.if-hint-places.true

pub is_covered-requires-clause-first : goal.is_covered-requires-clause-first
is_covered-requires-clause-first c = c.args.pair.first

pub is_covered-requires-clause-second : goal.is_covered-requires-clause-second
is_covered-requires-clause-second c = c.args.pair.second

pub first_covered-m-requires-clause-start : goal.first_covered-m-requires-clause-start
first_covered-m-requires-clause-start c = from_zero _

pub first_covered-m-requires-clause-first : goal.first_covered-m-requires-clause-first
first_covered-m-requires-clause-first c = c.args.pair.first

pub first_covered-m-requires-clause-second : goal.first_covered-m-requires-clause-second
first_covered-m-requires-clause-second c = c.args.pair.second

pub loop-m-init : goal.loop-m-init
loop-m-init c =
    let first = c.first_covered-m.ensures in
    record {
      most = subst (λ n. c.first_covered-m.result ≤ n) c.args.pair.count first.most;
      inside = λ less. first.covered (subst (λ n. c.first_covered-m.result < n) (sym c.args.pair.count) less);
      earlier = λ k less third. first.earlier k (from_zero k) less third.2;
    }

pub bounds-places-m : goal.bounds-places-m
bounds-places-m c = c.loop-m-test.true

pub returns-then-is_third-2-clause-some : goal.returns-then-is_third-2-clause-some
returns-then-is_third-2-clause-some c =
    third_found c.args.pair.compatible_list.now.places.items c.as_slice-places.result.now c.args.pair.compatible_list.now.table.supports c.args.pair.i c.args.pair.j c.loop-m.m c.args.pair.a.now c.args.pair.b.now
    c.as_slice-places.ensures.value c.loop-m-test.true c.loop-m.invariant.inside (c.is_third-in-loop-m.ensures.0 c.if-is_third-2.true)

pub returns-then-is_third-2-clause-none : goal.returns-then-is_third-2-clause-none
returns-then-is_third-2-clause-none c = tt

pub first_covered-m-requires-in-loop-m-clause-start : goal.first_covered-m-requires-in-loop-m-clause-start
first_covered-m-requires-in-loop-m-clause-start c =
    next_start c.args.pair.compatible_list.now.places.items c.as_slice-places.result.now c.loop-m.m _ c.as_slice-places.ensures.value c.args.pair.count c.loop-m-test.true

pub first_covered-m-requires-in-loop-m-clause-first : goal.first_covered-m-requires-in-loop-m-clause-first
first_covered-m-requires-in-loop-m-clause-first c = c.args.pair.first

pub first_covered-m-requires-in-loop-m-clause-second : goal.first_covered-m-requires-in-loop-m-clause-second
first_covered-m-requires-in-loop-m-clause-second c = c.args.pair.second

pub loop-m-smaller : goal.loop-m-smaller
loop-m-smaller c = fewer_left c.args.pair.compatible_list.now.places.items c.as_slice-places.result.now c.loop-m.m c.first_covered-m-in-loop-m.result c.as_slice-places.ensures.value c.loop-m-test.true c.first_covered-m-in-loop-m.ensures.least

pub returns-then-is_covered-clause-none : goal.returns-then-is_covered-clause-none
returns-then-is_covered-clause-none c = tt

pub returns-clause-some : goal.returns-clause-some
returns-clause-some c = tt

pub returns-clause-none : goal.returns-clause-none
returns-clause-none c =
    λ k less. c.loop-m.invariant.earlier k (before_end c.args.pair.compatible_list.now.places.items c.as_slice-places.result.now k c.loop-m.m c.as_slice-places.ensures.value c.loop-m-test.false less)

pub bounds-places-hint : goal.bounds-places-hint
bounds-places-hint c = c.if-hint-places.true

pub returns-then-is_covered-clause-some : goal.returns-then-is_covered-clause-some
returns-then-is_covered-clause-some c =
    third_found c.args.pair.compatible_list.now.places.items c.as_slice-places.result.now c.args.pair.compatible_list.now.table.supports c.args.pair.i c.args.pair.j c.args.hint c.args.pair.a.now c.args.pair.b.now
    c.as_slice-places.ensures.value c.if-hint-places.true (λ less. c.is_covered.ensures.0 c.if-is_covered.true) (c.is_third.ensures.0 c.if-is_third.true)

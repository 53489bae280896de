-- Each step continues the decomposition, and its numbers are within the limit.
use Rattle.std.proofs.Common.{◌≡◌, length, refl, sym, ap, ◌∙◌, arith, subst, subst₂, ◌∷◌, ◌++◌, [], map}
use Rattle.cone_definitions.specs.Vectors.{IsInside, IsNonzero, multiple}
use Rattle.sum_definitions.specs.Sums.{repeated, difference}
use Rattle.sum_laws.proofs.Runs.{sum_is_right}
use Rattle.ray_decompose.proofs.Bounds.{turn_is, turn_fits, turns_are_few, ray_width, large_turn, counts_fit, goes_on, none_there, ends, widths, at_place, same_lengths}
use Rattle.ray_decompose.proofs.decomposing.decompose.Goals as goal
use Rattle.ray_decompose.proofs.decomposing.decompose.Goals.{in-Some+in_default-first_large+in_ok-left, in_default}

pub invariant_of-division-clause-lengths : goal.invariant_of-division-clause-lengths
invariant_of-division-clause-lengths c = sym (same_lengths _ _ _ _ (at_place c.args.list.now c.loop-ray.ray-index _ _ c.loop-ray-test.true c.ray-item.is c.entries.ensures.entries) c.deref.ensures.value (widths c.args.system.now.columns c.args.system.now.rows c.args.list.now c.args.x.now c.requires c.args.limit (length c.loop-ray.terms.items)
    (record { times = c.loop-ray.times; terms = c.loop-ray.terms.items; rest = c.loop-ray.rest.items }) c.loop-ray.invariant.led c.loop-ray.ray-index c.loop-ray-test.true))

pub invariant_of-division-clause-nonzero : goal.invariant_of-division-clause-nonzero
invariant_of-division-clause-nonzero c = ∣ subst IsNonzero (sym (at_place c.args.list.now c.loop-ray.ray-index _ _ c.loop-ray-test.true c.ray-item.is c.entries.ensures.entries))
    (c.requires.rays c.loop-ray.ray-index [] c.loop-ray-test.true).extreme.nonzero ∣₁

pub overflow_cast-turn : goal.overflow_cast-turn
overflow_cast-turn c =
    let t = turn_is c.args.system.now.columns c.args.system.now.rows c.args.list.now c.args.x.now c.args.limit c.loop-ray.times c.loop-ray.terms.items c.loop-ray.rest.items c.loop-ray.ray-index
    c.in-Some.fraction.numerator c.in-Some.fraction.denominator _ _ _ c.requires c.loop-ray.invariant.led c.loop-ray.invariant.none c.loop-ray-test.true c.ray-item.is
    c.entries.ensures.entries c.deref.ensures.value c.in-Some.ensures.inside c.in-Some.ensures.least in
    let limited = turns_are_few c.args.system.now.columns c.args.system.now.rows c.args.list.now c.args.x.now c.args.limit c.loop-ray.times c.loop-ray.terms.items c.loop-ray.rest.items c.loop-ray.ray-index
    c.in-Some.fraction.numerator c.in-Some.fraction.denominator t in
    let wide = ray_width c.args.system.now.columns c.args.system.now.rows c.args.list.now c.args.x.now c.args.limit c.loop-ray.times c.loop-ray.terms.items c.loop-ray.rest.items c.loop-ray.ray-index
    c.in-Some.fraction.numerator c.in-Some.fraction.denominator t in
    let e = ap length (at_place c.args.list.now c.loop-ray.ray-index _ _ c.loop-ray-test.true c.ray-item.is c.entries.ensures.entries) in
    let n : c.len-turn.result ≡ length c.loop-ray.terms.items = c.len-turn.ensures ∙ c.loop-ray.terms.ok.0 in
    omega (arith, limited, wide, c.entries.ensures.reduced.width, e, n, ap length c.entries.ensures.entries)

pub returns-in-Some-first_large-clause-err : goal.returns-in-Some-first_large-clause-err
returns-in-Some-first_large-clause-err c =
    large_turn c.args.system.now.columns c.args.system.now.rows c.args.list.now c.args.x.now c.args.limit c.loop-ray.times c.loop-ray.terms.items c.loop-ray.rest.items c.loop-ray.ray-index
    c.in-Some.fraction.numerator c.in-Some.fraction.denominator
    (turn_is c.args.system.now.columns c.args.system.now.rows c.args.list.now c.args.x.now c.args.limit c.loop-ray.times c.loop-ray.terms.items c.loop-ray.rest.items c.loop-ray.ray-index
    c.in-Some.fraction.numerator c.in-Some.fraction.denominator _ _ _ c.requires c.loop-ray.invariant.led c.loop-ray.invariant.none c.loop-ray-test.true c.ray-item.is
    c.entries.ensures.entries c.deref.ensures.value c.in-Some.ensures.inside c.in-Some.ensures.least)
    _ _ (c.len-turn.ensures ∙ c.loop-ray.terms.ok.0) c.in-Some-first_large.ensures.some

pub invariant_of-taking-clause-lengths : goal.invariant_of-taking-clause-lengths
invariant_of-taking-clause-lengths c = ap length (at_place c.args.list.now c.loop-ray.ray-index _ _ c.loop-ray-test.true c.ray-item.is refl) ∙ (widths c.args.system.now.columns c.args.system.now.rows c.args.list.now c.args.x.now c.requires c.args.limit (length c.loop-ray.terms.items)
    (record { times = c.loop-ray.times; terms = c.loop-ray.terms.items; rest = c.loop-ray.rest.items }) c.loop-ray.invariant.led c.loop-ray.ray-index c.loop-ray-test.true)

pub take_ray-requires : goal.take_ray-requires
take_ray-requires c k d l =
    let f = turn_fits c.args.system.now.columns c.args.system.now.rows c.args.list.now c.args.x.now c.args.limit c.loop-ray.times c.loop-ray.terms.items c.loop-ray.rest.items c.loop-ray.ray-index
    c.in-Some.fraction.numerator c.in-Some.fraction.denominator (turn_is c.args.system.now.columns c.args.system.now.rows c.args.list.now c.args.x.now c.args.limit c.loop-ray.times c.loop-ray.terms.items c.loop-ray.rest.items c.loop-ray.ray-index
    c.in-Some.fraction.numerator c.in-Some.fraction.denominator _ _ _ c.requires c.loop-ray.invariant.led c.loop-ray.invariant.none c.loop-ray-test.true c.ray-item.is
    c.entries.ensures.entries c.deref.ensures.value c.in-Some.ensures.inside c.in-Some.ensures.least) c.in_default-first_large.ensures.none in
    counts_fit c.loop-ray.terms.items _ c.in-Some.fraction.denominator c.args.limit 340282366920938463463374607431768211456 refl f.counts (omega arith) k d l

pub invariant_of-taking-clause-fits : goal.invariant_of-taking-clause-fits
invariant_of-taking-clause-fits c column =
    let f = turn_fits c.args.system.now.columns c.args.system.now.rows c.args.list.now c.args.x.now c.args.limit c.loop-ray.times c.loop-ray.terms.items c.loop-ray.rest.items c.loop-ray.ray-index
    c.in-Some.fraction.numerator c.in-Some.fraction.denominator (turn_is c.args.system.now.columns c.args.system.now.rows c.args.list.now c.args.x.now c.args.limit c.loop-ray.times c.loop-ray.terms.items c.loop-ray.rest.items c.loop-ray.ray-index
    c.in-Some.fraction.numerator c.in-Some.fraction.denominator _ _ _ c.requires c.loop-ray.invariant.led c.loop-ray.invariant.none c.loop-ray-test.true c.ray-item.is
    c.entries.ensures.entries c.deref.ensures.value c.in-Some.ensures.inside c.in-Some.ensures.least) c.in_default-first_large.ensures.none in
    let l = f.rest column in
    omega (arith, l)

pub invariant_of-taking-clause-enough : goal.invariant_of-taking-clause-enough
invariant_of-taking-clause-enough c column =
    let f = turn_fits c.args.system.now.columns c.args.system.now.rows c.args.list.now c.args.x.now c.args.limit c.loop-ray.times c.loop-ray.terms.items c.loop-ray.rest.items c.loop-ray.ray-index
    c.in-Some.fraction.numerator c.in-Some.fraction.denominator (turn_is c.args.system.now.columns c.args.system.now.rows c.args.list.now c.args.x.now c.args.limit c.loop-ray.times c.loop-ray.terms.items c.loop-ray.rest.items c.loop-ray.ray-index
    c.in-Some.fraction.numerator c.in-Some.fraction.denominator _ _ _ c.requires c.loop-ray.invariant.led c.loop-ray.invariant.none c.loop-ray-test.true c.ray-item.is
    c.entries.ensures.entries c.deref.ensures.value c.in-Some.ensures.inside c.in-Some.ensures.least) c.in_default-first_large.ensures.none in
    rw (at_place c.args.list.now c.loop-ray.ray-index _ _ c.loop-ray-test.true c.ray-item.is refl) (f.enough column)

pub overflow_mul-times : goal.overflow_mul-times
overflow_mul-times c =
    let f = turn_fits c.args.system.now.columns c.args.system.now.rows c.args.list.now c.args.x.now c.args.limit c.loop-ray.times c.loop-ray.terms.items c.loop-ray.rest.items c.loop-ray.ray-index
    c.in-Some.fraction.numerator c.in-Some.fraction.denominator (turn_is c.args.system.now.columns c.args.system.now.rows c.args.list.now c.args.x.now c.args.limit c.loop-ray.times c.loop-ray.terms.items c.loop-ray.rest.items c.loop-ray.ray-index
    c.in-Some.fraction.numerator c.in-Some.fraction.denominator _ _ _ c.requires c.loop-ray.invariant.led c.loop-ray.invariant.none c.loop-ray-test.true c.ray-item.is
    c.entries.ensures.entries c.deref.ensures.value c.in-Some.ensures.inside c.in-Some.ensures.least) c.in_default-first_large.ensures.none in
    let l = f.times in
    omega (arith, l)

pub loop-ray-preserved : goal.loop-ray-preserved
loop-ray-preserved c = elim c.match-fraction_inside.branch [
  | in-Some+in_default-first_large+in_ok-left w ↦
      let at = at_place c.args.list.now c.loop-ray.ray-index _ _ c.loop-ray-test.true c.ray-item.is refl in
      goes_on c.args.system.now.columns c.args.system.now.rows c.args.list.now c.args.x.now c.args.limit c.loop-ray.times c.loop-ray.terms.items c.loop-ray.rest.items c.loop-ray.ray-index
      w.in-Some.fraction.numerator w.in-Some.fraction.denominator
      (turn_is c.args.system.now.columns c.args.system.now.rows c.args.list.now c.args.x.now c.args.limit c.loop-ray.times c.loop-ray.terms.items c.loop-ray.rest.items c.loop-ray.ray-index
      w.in-Some.fraction.numerator w.in-Some.fraction.denominator _ _ _ c.requires c.loop-ray.invariant.led c.loop-ray.invariant.none c.loop-ray-test.true c.ray-item.is
      c.entries.ensures.entries c.deref.ensures.value w.in-Some.ensures.inside w.in-Some.ensures.least)
      _ _ _ w.in_default-first_large.ensures.none w.times-is
      (rw w.terms-is (w.in_ok-left.ensures.terms ∙ ap (λ v. map (repeated w.in-Some.fraction.denominator) c.loop-ray.terms.items ++ record { count = w.in-Some.fraction.numerator; vector = v } ∷ []) at))
      (rw w.rest-is (w.in_ok-left.ensures.rest ∙ ap (λ v. difference (multiple w.in-Some.fraction.denominator c.loop-ray.rest.items) (multiple w.in-Some.fraction.numerator v)) at))
  | in_default w ↦ rw (w.times-is, w.terms-is, w.rest-is) (record {
    led = c.loop-ray.invariant.led;
    none = none_there c.args.list.now c.loop-ray.rest.items c.loop-ray.ray-index c.loop-ray.invariant.none
        (λ h. w.in_default.ensures.none (subst₂ IsInside (sym (at_place c.args.list.now c.loop-ray.ray-index _ _ c.loop-ray-test.true c.ray-item.is c.entries.ensures.entries)) (sym c.deref.ensures.value) h));
  })
]

pub returns-clause-ok : goal.returns-clause-ok
returns-clause-ok c = ends c.args.system.now.columns c.args.system.now.rows c.args.list.now c.args.x.now c.args.limit c.loop-ray.times c.loop-ray.terms.items c.loop-ray.rest.items c.loop-ray.ray-index
    c.requires c.loop-ray.invariant.led c.loop-ray.invariant.none c.loop-ray-test.false

pub returns-clause-right : goal.returns-clause-right
returns-clause-right c = sum_is_right c.args.system.now.columns c.args.system.now.rows c.args.list.now c.args.x.now c.requires c.args.limit c.loop-ray.times c.loop-ray.terms.items
    (ends c.args.system.now.columns c.args.system.now.rows c.args.list.now c.args.x.now c.args.limit c.loop-ray.times c.loop-ray.terms.items c.loop-ray.rest.items c.loop-ray.ray-index
    c.requires c.loop-ray.invariant.led c.loop-ray.invariant.none c.loop-ray-test.false)

use Rattle.std.proofs.Common.{length, ⊎_elim, ◌∙◌, sym, arith, below_more}
use Rattle.std.proofs.lemmas.Bool.{cases_lt}
use Rattle.std.proofs.lemmas.List.{get_or_past, take_all}
use Rattle.cone_definitions.specs.Vectors.{multiple, sum_of}
use Rattle.cone_arithmetic.proofs.EntryLemmas.{entry-sums, length-sums, sums_more}
use Rattle.cone_arithmetic.proofs.ray.sums_within.Goals as goal

pub returns-in-None-clause-err : goal.returns-in-None-clause-err
returns-in-None-clause-err c = record {
  exceeded = let e = entry-sums c.args.combination.a c.args.combination.b c.args.combination.w.now c.args.combination.u.now c.args.combination.lengths c.loop-column.column in omega (arith, c.in-None.ensures.none);
  earlier = c.loop-column.invariant.within;
}

pub loop-column-preserved : goal.loop-column-preserved
loop-column-preserved c =
    let z = sum_of (multiple c.args.combination.a c.args.combination.w.now) (multiple c.args.combination.b c.args.combination.u.now) in
    let e = length-sums c.args.combination.a c.args.combination.b c.args.combination.w.now c.args.combination.u.now c.args.combination.lengths in
    let at = entry-sums c.args.combination.a c.args.combination.b c.args.combination.w.now c.args.combination.u.now c.args.combination.lengths c.loop-column.column in
    record {
      sums = c.in_ok-push-in-Some.ensures.items ∙ sums_more z c.loop-column.column 0 _ c.loop-column.sums.items c.loop-column.invariant.sums (omega arith) (at ∙ sym c.in-Some.ensures.some);
      within = below_more _ _ c.loop-column.invariant.within (omega (arith, c.in-Some.ensures.some, c.in-Some.ensures.within));
    }

pub returns-clause-ok : goal.returns-clause-ok
returns-clause-ok c =
    c.loop-column.invariant.sums ∙ take_all _ _ (let e = length-sums c.args.combination.a c.args.combination.b c.args.combination.w.now c.args.combination.u.now c.args.combination.lengths in omega arith)

pub returns-clause-within : goal.returns-clause-within
returns-clause-within c column =
    let z = sum_of (multiple c.args.combination.a c.args.combination.w.now) (multiple c.args.combination.b c.args.combination.u.now) in
    let e = length-sums c.args.combination.a c.args.combination.b c.args.combination.w.now c.args.combination.u.now c.args.combination.lengths in
    ⊎_elim (λ h. c.loop-column.invariant.within column (omega arith)) (λ h. omega (arith, get_or_past z column 0 (omega arith))) (cases_lt column (length c.args.combination.w.now))

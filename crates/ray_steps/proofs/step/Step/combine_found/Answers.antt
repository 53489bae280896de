use Rattle.std.proofs.Common.{◌+◌, ◌<◌, subst, sym, ◌∙◌, ap}
use Rattle.std.proofs.lemmas.List.{get_or_default}
use Rattle.ray_steps.specs.declared.signs.Sign.TheVariants.{Zero}
use Rattle.ray_steps.specs.Rays.{rays_of}
use Rattle.ray_steps.specs.Steps.{StepData, AreMadeTo}
use Rattle.ray_steps.proofs.FoundLemmas.{at_found, after_found, all_found}
use Rattle.ray_steps.proofs.CombinationLemmas.{made_skip_all}
use Rattle.ray_steps.proofs.ViewLemmas.{place_of_rays}
use Rattle.ray_steps.proofs.PlaceLemmas.{taken_none}
use Rattle.ray_steps.proofs.step.Step.combine_found.Goals as goal

pub returns-in_default : goal.returns-in_default
returns-in_default g c =
    let s = c.self.inside in
    let signs = s.signs.items in
    let i = c.args.i in
    let made = c.args.made.now.items in
    let i_in = place_of_rays s.ray_list.items c.args.self.now.rays i (ap (λ (d : StepData). d.rays) c.self.view_is) c.requires.in_range in
    let within = subst (λ n. i < n) (sym c.self.invariant.count) i_in in
    let before = subst (λ (d : StepData). AreMadeTo d i 0 made) (sym c.self.view_is) c.requires.made in
    record {
      ok = subst (λ (d : StepData). AreMadeTo d (i + 1) 0 made) c.self.view_is (record {
        so_far = made_skip_all s.limit.number s.clashes.now.pairs (rays_of s.ray_list.items) signs i (rays_of made)
            (λ at_u p. c.in_default.not-Positive at_u (c.index.ensures ∙ get_or_default signs i c.index.result.now Zero within ∙ p)) before.so_far;
        widths = before.widths;
      });
      err = tt;
    }

pub loop-place-init : goal.loop-place-init
loop-place-init g c = record { taken = taken_none _ _ _ _ _ _ _ c.requires.made.so_far; widths = c.requires.made.widths }

pub invariant_of-pair-clause-second : goal.invariant_of-pair-clause-second
invariant_of-pair-clause-second g c = c.requires.places.in_range c.loop-place.place-index 0 c.loop-place-test.true

pub combine-requires-clause-face : goal.combine-requires-clause-face
combine-requires-clause-face g c = c.requires.places.adjacent c.loop-place.place-index 0 c.loop-place-test.true

pub combine-requires-clause-made : goal.combine-requires-clause-made
combine-requires-clause-made g c =
    let d = c.args.self.now in
    let found = c.requires.places in
    record {
      so_far = at_found d.limit d.pairs d.rays d.signs c.args.i c.args.places.now found.ascending found.complete c.loop-place.place-index (rays_of c.loop-place.made.items) c.loop-place-test.true c.loop-place.invariant.taken;
      widths = c.loop-place.invariant.widths;
    }

pub loop-place-preserved : goal.loop-place-preserved
loop-place-preserved g c =
    let d = c.args.self.now in
    let found = c.requires.places in
    record {
      taken = after_found d.limit d.pairs d.rays d.signs c.args.i c.args.places.now found.ascending found.complete c.loop-place.place-index (rays_of c.combine.new.made.items) c.loop-place-test.true c.in_ok-combine.ensures.ok.so_far;
      widths = c.in_ok-combine.ensures.ok.widths;
    }

pub returns-clause-ok : goal.returns-clause-ok
returns-clause-ok g c =
    let d = c.args.self.now in
    let found = c.requires.places in
    record {
      so_far = all_found d.limit d.pairs d.rays d.signs c.args.i c.args.places.now found.ascending found.complete c.loop-place.place-index (rays_of c.loop-place.made.items) c.loop-place-test.false c.loop-place.invariant.taken;
      widths = c.loop-place.invariant.widths;
    }

use Rattle.std.proofs.Common.{◌≡◌, ◌+◌, ◌<◌, ◌≤◌, ℕ, Vec, Global, length, arith, ap, ◌∙◌}
use Rattle.std.specs.Prelude.{slice_index, count_by}
use Rattle.std.proofs.lemmas.List.{get_or_default}
use Rattle.table_definitions.specs.Lists.{below}
use Rattle.skeleton_class_laws.specs.Tallies.{is_counted}
use Rattle.skeleton_class_laws.proofs.TallyLemmas.{none_counted, thing_passes_not, thing_counts, things_end, count_below}
use Rattle.vertex_links.proofs.tally.tally.Goals as goal
use Rattle.vertex_links.proofs.tally.tally.Goals.{then-passes-thing, else-passes-thing}

pub loop-thing-init : goal.loop-thing-init
loop-thing-init c = none_counted _ _ _ _ (c.in_ok-tallies.ensures.items_if_clones_equal (λ y e. e))

pub overflow_add-index_mut : goal.overflow_add-index_mut
overflow_add-index_mut c =
    let x = slice_index c.args.owners.now c.loop-thing.thing in
    let inside : x < c.args.count = c.requires.in_range c.loop-thing.thing c.loop-thing-test.true in
    let value : c.index_mut.result.now ≡ slice_index c.loop-thing.tallies.items x =
    c.index_mut.ensures.value ∙ get_or_default c.loop-thing.tallies.items x c.index_mut.result.now 0 (omega (arith, c.loop-thing.invariant.one_each)) in
    let reported : slice_index c.loop-thing.tallies.items x ≡ count_by (is_counted c.args.passes.now c.args.owners.now x) (below c.loop-thing.thing) = c.loop-thing.invariant.reported x inside in
    let limited : count_by (is_counted c.args.passes.now c.args.owners.now x) (below c.loop-thing.thing) ≤ c.loop-thing.thing = count_below (is_counted c.args.passes.now c.args.owners.now x) c.loop-thing.thing in
    omega arith

pub loop-thing-preserved : goal.loop-thing-preserved
loop-thing-preserved c = elim c.if-passes-thing.branch [
  | then-passes-thing w ↦
      let inside : slice_index c.args.owners.now c.loop-thing.thing < c.args.count = c.requires.in_range c.loop-thing.thing c.loop-thing-test.true in
      thing_counts c.args.passes.now c.args.owners.now c.args.count c.loop-thing.thing c.loop-thing.tallies.items c.loop-thing.invariant w.if-passes-thing.true inside (w.index_mut.result.now + 1)
      (ap (λ k. k + 1) (w.index_mut.ensures.value ∙ get_or_default c.loop-thing.tallies.items (slice_index c.args.owners.now c.loop-thing.thing) w.index_mut.result.now 0
      (omega (arith, c.loop-thing.invariant.one_each))))
      c.if-passes-thing.tallies.items (ap (λ (v : Vec ℕ Global). v.items) w.tallies-is)
  | else-passes-thing w ↦ rw (ap (λ (v : Vec ℕ Global). v.items) w.tallies-is)
      (thing_passes_not c.args.passes.now c.args.owners.now c.args.count c.loop-thing.thing c.loop-thing.tallies.items c.loop-thing.invariant w.if-passes-thing.false)
]

pub returns : goal.returns
returns c = things_end _ _ _ c.loop-thing.thing _ (let e : c.loop-thing.thing ≡ length c.args.owners.now = omega arith in e) c.loop-thing.invariant

use Rattle.std.proofs.Common.{◌<◌, [], List, length, arith, ap, sym, subst, ◌∙◌, refl}
use Rattle.std.specs.Prelude.{IsPermutation}
use Rattle.std.proofs.lemmas.List.{length-set}
use Rattle.table_definitions.specs.Lists.{below}
use Rattle.table_definitions.specs.Relabelling.{Relabelling, IsRelabelling}
use Rattle.signature_definitions.specs.Labellings.{Start}
use Rattle.signature_laws.specs.Orders.{start_at, Numbers}
use Rattle.signature_laws.proofs.Marking.{start_is}
use Rattle.canonical_labelling.proofs.Placing.{item_below, placed_more, are_numbered, all_permute, placed_numbers}
use Rattle.canonical_labelling.proofs.Reached.{traversed}
use Rattle.canonical_labelling.proofs.labels.relabelling_of.Goals as goal

pub overflow_cast-i : goal.overflow_cast-i
overflow_cast-i c =
    let o = traversed c.args.traversal.now.table.now c.args.traversal.now.start c.deref-start-items.result.now c.args.traversal.now.is_table c.args.traversal.now.connected c.args.traversal.now.in_range c.in_ok-order.ensures.permutes (c.deref-start-items.ensures.value ∙ c.in_ok-order.ensures.whole) in
    let limited = o.limited in
    omega (arith, limited, c.loop-i-test.true, c.len-count.ensures.value, c.len-count.ensures.limited)

pub index_mut-requires : goal.index_mut-requires
index_mut-requires c =
    let o = traversed c.args.traversal.now.table.now c.args.traversal.now.start c.deref-start-items.result.now c.args.traversal.now.is_table c.args.traversal.now.connected c.args.traversal.now.in_range c.in_ok-order.ensures.permutes (c.deref-start-items.ensures.value ∙ c.in_ok-order.ensures.whole) in
    let below : c.start.inside.tet < (length c.args.traversal.now.table.now) = item_below (length c.args.traversal.now.table.now) c.deref-start-items.result.now c.loop-i.i c.start.inside.tet c.start-item.result o.whole c.loop-i-test.true c.start-item.is (ap (λ (s : Start). s.tet) c.start.view_is) in
    omega (arith, c.loop-i.invariant.size, c.loop-i.images.ok, c.loop-i.invariant.perms, c.loop-i.perms.ok)

pub index_mut-requires-in-loop-i : goal.index_mut-requires-in-loop-i
index_mut-requires-in-loop-i c =
    let o = traversed c.args.traversal.now.table.now c.args.traversal.now.start c.deref-start-items.result.now c.args.traversal.now.is_table c.args.traversal.now.connected c.args.traversal.now.in_range c.in_ok-order.ensures.permutes (c.deref-start-items.ensures.value ∙ c.in_ok-order.ensures.whole) in
    let below : c.start.inside.tet < (length c.args.traversal.now.table.now) = item_below (length c.args.traversal.now.table.now) c.deref-start-items.result.now c.loop-i.i c.start.inside.tet c.start-item.result o.whole c.loop-i-test.true c.start-item.is (ap (λ (s : Start). s.tet) c.start.view_is) in
    omega (arith, c.loop-i.invariant.size, c.loop-i.images.ok, c.loop-i.invariant.perms, c.loop-i.perms.ok)

pub loop-i-init : goal.loop-i-init
loop-i-init c = record {
  size = omega (arith, c.in_ok-images.ensures.len, c.in_ok-images.images.ok, c.len-count.ensures.value);
  each = λ k l. absurd (omega arith);
  perms = omega (arith, c.in_ok-perms.ensures.len, c.in_ok-perms.perms.ok, c.len-count.ensures.value);
  permute = λ k l. absurd (omega arith);
}

pub loop-i-preserved : goal.loop-i-preserved
loop-i-preserved c =
    let o = traversed c.args.traversal.now.table.now c.args.traversal.now.start c.deref-start-items.result.now c.args.traversal.now.is_table c.args.traversal.now.connected c.args.traversal.now.in_range c.in_ok-order.ensures.permutes (c.deref-start-items.ensures.value ∙ c.in_ok-order.ensures.whole) in
    let here = ap (λ (s : Start). s.tet) c.start.view_is in
    record {
      size = length-set _ _ _ ∙ c.loop-i.invariant.size;
      each = placed_more (length c.args.traversal.now.table.now) c.deref-start-items.result.now c.loop-i.images.items 0 c.loop-i.i (λ k. k) c.loop-i.i c.start.inside.tet c.start-item.result o.whole c.loop-i-test.true c.start-item.is
          here refl c.loop-i.invariant.size c.loop-i.invariant.each;
      perms = length-set _ _ _ ∙ c.loop-i.invariant.perms;
      permute = placed_more (length c.args.traversal.now.table.now) c.deref-start-items.result.now c.loop-i.perms.items [] c.start.inside.perm (λ k. (start_at c.deref-start-items.result.now k).perm) c.loop-i.i c.start.inside.tet c.start-item.result o.whole c.loop-i-test.true c.start-item.is
          here (ap (λ (s : Start). s.perm) (c.start.view_is ∙ start_is c.deref-start-items.result.now c.loop-i.i c.start-item.result c.loop-i-test.true c.start-item.is)) c.loop-i.invariant.perms c.loop-i.invariant.permute;
    }

pub from_sound-requires : goal.from_sound-requires
from_sound-requires c =
    let o = traversed c.args.traversal.now.table.now c.args.traversal.now.start c.deref-start-items.result.now c.args.traversal.now.is_table c.args.traversal.now.connected c.args.traversal.now.in_range c.in_ok-order.ensures.permutes (c.deref-start-items.ensures.value ∙ c.in_ok-order.ensures.whole) in
    let i = c.loop-i.invariant in
    record {
      images = subst (λ n. IsPermutation c.loop-i.images.items (below n)) (sym i.size)
          (are_numbered (length c.args.traversal.now.table.now) c.deref-start-items.result.now c.loop-i.images.items o.whole o.limited i.size (λ k l. i.each k (omega (arith, c.loop-i-test.false, l))));
      perms = i.perms ∙ sym i.size;
      permutes = all_permute (length c.args.traversal.now.table.now) c.deref-start-items.result.now c.loop-i.perms.items o.whole i.perms (λ k l. i.permute k (omega (arith, c.loop-i-test.false, l))) o.permute;
    }

pub returns-clause-bijection : goal.returns-clause-bijection
returns-clause-bijection c =
    let o = traversed c.args.traversal.now.table.now c.args.traversal.now.start c.deref-start-items.result.now c.args.traversal.now.is_table c.args.traversal.now.connected c.args.traversal.now.in_range c.in_ok-order.ensures.permutes (c.deref-start-items.ensures.value ∙ c.in_ok-order.ensures.whole) in
    let i = c.loop-i.invariant in
    subst (λ (by : Relabelling). IsRelabelling (length c.args.traversal.now.table.now) by) (sym c.from_sound.ensures) (record {
      images = are_numbered (length c.args.traversal.now.table.now) c.deref-start-items.result.now c.loop-i.images.items o.whole o.limited i.size (λ k l. i.each k (omega (arith, c.loop-i-test.false, l)));
      perms = i.perms;
      permutes = all_permute (length c.args.traversal.now.table.now) c.deref-start-items.result.now c.loop-i.perms.items o.whole i.perms (λ k l. i.permute k (omega (arith, c.loop-i-test.false, l))) o.permute;
    })

pub returns-clause-numbers : goal.returns-clause-numbers
returns-clause-numbers c =
    let i = c.loop-i.invariant in
    subst (λ (order : List Start). Numbers order c.from_sound.result) (c.deref-start-items.ensures.value ∙ c.in_ok-order.ensures.whole)
    (placed_numbers c.deref-start-items.result.now c.from_sound.result c.loop-i.images.items c.loop-i.perms.items c.from_sound.ensures
    (λ k l. i.each k (omega (arith, c.loop-i-test.false, l))) (λ k l. i.permute k (omega (arith, c.loop-i-test.false, l))))

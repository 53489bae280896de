use Rattle.std.proofs.Common.{◌≡◌, ◌+◌, ◌<◌, ◌≤◌, ℕ, List, length, take, arith, slice_index, ap, sym, subst, ◌∙◌}
use Rattle.std.proofs.lemmas.List.{get_or_default, length-replicate, length-set, length-take-le, take_all}
use Rattle.std.proofs.lemmas.List.Sums.{count_by-le-length}
use Rattle.std.specs.Prelude.{◌==◌}
use Rattle.table_definitions.specs.Lists.{times_in}
use Rattle.skeleton.proofs.MarkLemmas.{degree_grows}
use Rattle.skeleton_class_laws.proofs.Marks.{all_zero}
use Rattle.skeleton.proofs.degrees.degrees_of.Goals as goal

-- each class is below the count
abbrev AreBelow : ℕ → List ℕ → Type 0
AreBelow count classes = (i : ℕ) → i < length classes → slice_index classes i < count

pub loop-class-init : goal.loop-class-init
loop-class-init c = record {
  one_each = ap (λ (xs : List ℕ). length xs) (c.in_ok-degrees.ensures.items_if_clones_equal (λ y e. e)) ∙ length-replicate c.len.result 0 ∙ c.len.ensures ∙ c.args.numbering.now.firsts.ok.0;
  counted = λ k l. all_zero _ c.len.result (c.in_ok-degrees.ensures.items_if_clones_equal (λ y e. e)) k;
}

pub overflow_add-index_mut : goal.overflow_add-index_mut
overflow_add-index_mut c =
    let classes = c.deref-class-items.result.now in
    let count = length c.args.numbering.now.firsts.items in
    let x = slice_index classes c.loop-class.class-index in
    let inside : x < count = subst (AreBelow count) (sym c.deref-class-items.ensures.value) c.args.numbering.now.in_range c.loop-class.class-index c.loop-class-test.true in
    let value : c.index_mut.result.now ≡ slice_index c.loop-class.degrees.items x = c.index_mut.ensures.value ∙ get_or_default c.loop-class.degrees.items x c.index_mut.result.now 0 (omega (arith, c.loop-class.invariant.one_each)) in
    let counted : slice_index c.loop-class.degrees.items x ≡ times_in (take c.loop-class.class-index classes) x = c.loop-class.invariant.counted x inside in
    let limited : times_in (take c.loop-class.class-index classes) x ≤ length (take c.loop-class.class-index classes) = count_by-le-length (λ m. m == x) (take c.loop-class.class-index classes) in
    let size : length (take c.loop-class.class-index classes) ≤ c.loop-class.class-index = omega (arith, length-take-le c.loop-class.class-index classes) in
    let same : length classes ≡ length c.args.numbering.now.classes.items = ap length c.deref-class-items.ensures.value in
    omega (arith, c.args.numbering.now.limited)

pub loop-class-preserved : goal.loop-class-preserved
loop-class-preserved c =
    let classes = c.deref-class-items.result.now in
    let count = length c.args.numbering.now.firsts.items in
    let inside : slice_index classes c.loop-class.class-index < count =
    subst (AreBelow count) (sym c.deref-class-items.ensures.value) c.args.numbering.now.in_range c.loop-class.class-index c.loop-class-test.true in
    record {
      one_each = length-set c.loop-class.degrees.items _ _ ∙ c.loop-class.invariant.one_each;
      counted = degree_grows classes c.loop-class.degrees.items count c.loop-class.class-index _ c.loop-class-test.true c.loop-class.invariant.one_each
          inside c.loop-class.invariant.counted (ap (λ k. k + 1)
          (c.index_mut.ensures.value ∙ get_or_default c.loop-class.degrees.items (slice_index classes c.loop-class.class-index) c.index_mut.result.now 0
          (omega (arith, c.loop-class.invariant.one_each))));
    }

pub returns : goal.returns
returns c =
    let classes = c.deref-class-items.result.now in
    record {
      one_each = c.loop-class.invariant.one_each;
      counted = λ k l. c.loop-class.invariant.counted k l ∙ ap (λ (xs : List ℕ). times_in xs k) (take_all c.loop-class.class-index classes c.loop-class-test.false ∙ c.deref-class-items.ensures.value);
    }

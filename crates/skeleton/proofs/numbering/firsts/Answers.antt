use Rattle.std.proofs.Common.{◌≡◌, ℕ, List, Vec, Global, length, ap, sym, arith, ◌∙◌, ◌++◌, ◌∷◌, [], length-append}
use Rattle.skeleton_class_laws.proofs.NumberingLemmas.{none_first, first_passes, first_grows, firsts_end}
use Rattle.skeleton.proofs.numbering.firsts.Goals as goal
use Rattle.skeleton.proofs.numbering.firsts.Goals.{then-classes-place+in_ok-push, else-classes-place}

pub loop-place-init : goal.loop-place-init
loop-place-init c = record {
  up_to = rw c.new-firsts.ensures.items (none_first c.args.classes.now);
  limited = omega (arith, ap (λ (xs : List ℕ). length xs) c.new-firsts.ensures.items);
}

pub loop-place-preserved : goal.loop-place-preserved
loop-place-preserved c = elim c.if-classes-place.branch [
  | then-classes-place+in_ok-push w ↦
      let e : c.if-classes-place.firsts.items ≡ c.loop-place.firsts.items ++ c.loop-place.place ∷ [] =
      ap (λ (v : Vec ℕ Global). v.items) w.firsts-is ∙ w.in_ok-push.ensures.items in
      record {
        up_to = rw e (first_grows c.loop-place.place c.args.classes.now c.loop-place.firsts.items c.loop-place.invariant.up_to c.loop-place-test.true (w.if-classes-place.true ∙ c.len.ensures ∙ c.loop-place.firsts.ok.0));
        limited = omega (arith, ap (λ (xs : List ℕ). length xs) e, length-append c.loop-place.firsts.items (c.loop-place.place ∷ []));
      }
  | else-classes-place w ↦
      let e : c.if-classes-place.firsts.items ≡ c.loop-place.firsts.items = ap (λ (v : Vec ℕ Global). v.items) w.firsts-is in
      record {
        up_to = rw e (first_passes c.loop-place.place c.args.classes.now c.loop-place.firsts.items c.requires.ordered c.loop-place.invariant.up_to c.loop-place-test.true (λ h. w.if-classes-place.false (h ∙ sym (c.len.ensures ∙ c.loop-place.firsts.ok.0))));
        limited = omega (arith, ap (λ (xs : List ℕ). length xs) e);
      }
]

pub returns : goal.returns
returns c = firsts_end _ _ c.loop-place.place c.loop-place-test.false c.loop-place.auto.place-end c.loop-place.invariant.up_to c.loop-place.invariant.limited

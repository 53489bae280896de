-- One more class, and in the end all of them.
use Rattle.std.proofs.Common.{◌≡◌, ◌+◌, ℕ, List, [], ◌∷◌, ◌++◌, Vec, Global, length, length-append, ap, sym, subst, arith, ◌∙◌}
use Rattle.std.proofs.lemmas.Bool.{false≢true}
use Rattle.presentation_laws.specs.Classes.{AreGeneratorsBelow}
use Rattle.presentation_laws.proofs.Marking.{generator_passes, generator_grows, all_generators}
use Rattle.edge_group.proofs.generators.Generators.of.Goals as goal
use Rattle.edge_group.proofs.generators.Generators.of.Goals.{then-is_generator+in_ok-push, else-is_generator}

pub loop-class-preserved : goal.loop-class-preserved
loop-class-preserved c = elim c.if-is_generator.branch [
  | then-is_generator+in_ok-push w ↦
      let e : c.if-is_generator.classes.items ≡ c.loop-class.classes.items ++ c.loop-class.class ∷ [] = ap (λ (v : Vec ℕ Global). v.items) w.classes-is ∙ w.in_ok-push.ensures.items in
      record {
        below = subst (AreGeneratorsBelow c.args.skeleton.now (c.loop-class.class + 1)) (sym e)
            (generator_grows c.args.skeleton.now c.loop-class.class c.loop-class.classes.items (c.is_generator.ensures.0 w.if-is_generator.true) c.loop-class.invariant.below);
        limited = omega (arith, ap (λ (xs : List ℕ). length xs) e, length-append c.loop-class.classes.items (c.loop-class.class ∷ []));
      }
  | else-is_generator w ↦
      let e : c.if-is_generator.classes.items ≡ c.loop-class.classes.items = ap (λ (v : Vec ℕ Global). v.items) w.classes-is in
      record {
        below = subst (AreGeneratorsBelow c.args.skeleton.now (c.loop-class.class + 1)) (sym e)
            (generator_passes c.args.skeleton.now c.loop-class.class c.loop-class.classes.items (λ g. false≢true (sym w.if-is_generator.false ∙ c.is_generator.ensures.1 g)) c.loop-class.invariant.below);
        limited = omega (arith, ap (λ (xs : List ℕ). length xs) e);
      }
]

pub invariant_of-result : goal.invariant_of-result
invariant_of-result c = record {
  skeleton = c.faces-class-end.ensures.skeleton;
  firsts = c.in_ok-firsts.ensures;
  generators = all_generators c.args.skeleton.now c.loop-class.class c.loop-class.classes.items
      (let e : c.loop-class.class ≡ c.args.skeleton.now.faces.count = omega (arith, c.loop-class-test.false, c.loop-class.auto.class-end, c.faces-class-end.ensures.count) in e) c.loop-class.invariant.below;
  limited = omega (arith, c.loop-class.invariant.limited, c.loop-class-test.false, c.loop-class.auto.class-end, c.faces-class-end.type_inv);
}

pub returns-clause-generators : goal.returns-clause-generators
returns-clause-generators c = all_generators c.args.skeleton.now c.loop-class.class c.loop-class.classes.items
    (let e : c.loop-class.class ≡ c.args.skeleton.now.faces.count = omega (arith, c.loop-class-test.false, c.loop-class.auto.class-end, c.faces-class-end.ensures.count) in e) c.loop-class.invariant.below

-- One more tetrahedron, which is in the component or not.
use Rattle.std.proofs.Common.{◌≡◌, ℕ, [], ◌∷◌, ◌++◌, Vec, Global, length, filter, slice_index, ap, ◌∙◌, arith}
use Rattle.std.specs.Prelude.{◌==◌}
use Rattle.table_definitions.specs.Lists.{below}
use Rattle.component_signature.proofs.Filtered.{grows, stays}
use Rattle.component_signature.proofs.split.members_of.Goals as goal
use Rattle.component_signature.proofs.split.members_of.Goals.{then-classes-tet+in_ok-push, else-classes-tet}

pub loop-tet-preserved : goal.loop-tet-preserved
loop-tet-preserved c = elim c.if-classes-tet.branch [
  | then-classes-tet+in_ok-push w ↦
      let e : c.if-classes-tet.members.items ≡ c.loop-tet.members.items ++ c.loop-tet.tet ∷ [] =
      ap (λ (v : Vec ℕ Global). v.items) w.members-is ∙ w.in_ok-push.ensures.items in
      grows c.args.classes.now c.args.class c.loop-tet.tet c.loop-tet.members.items c.if-classes-tet.members.items c.loop-tet.invariant w.if-classes-tet.true e
  | else-classes-tet w ↦
      stays c.args.classes.now c.args.class c.loop-tet.tet c.loop-tet.members.items c.if-classes-tet.members.items c.loop-tet.invariant w.if-classes-tet.false (ap (λ (v : Vec ℕ Global). v.items) w.members-is)
]

pub returns : goal.returns
returns c =
    let all : c.loop-tet.tet ≡ length c.args.classes.now = omega (arith, c.loop-tet-test.false, c.loop-tet.auto.tet-end) in
    c.loop-tet.invariant ∙ ap (λ n. filter (λ t. slice_index c.args.classes.now t == c.args.class) (below n)) all

-- The class of each tree face is marked.
use Rattle.std.proofs.Common.{◌+◌, ◌*◌, ◌<◌, Bool, Vec, Global, length, ap, ap₂, sym, subst, ◌∙◌}
use Rattle.std.specs.Prelude.{slice_index}
use Rattle.table_definitions.specs.Table.{Face}
use Rattle.presentation_laws.specs.Classes.{AreTreeClassesBelow}
use Rattle.presentation_laws.proofs.Marking.{tree_face_is, tree_root_is, tree_face_inside, class_passes, class_marked}
use Rattle.edge_group.proofs.faces.tree_classes.Goals as goal
use Rattle.edge_group.proofs.faces.tree_classes.Goals.{in-Some, in_default}

pub face_class-requires-clause-in_range : goal.face_class-requires-clause-in_range
face_class-requires-clause-in_range c =
    subst (λ t. t < length c.args.skeleton.now.rows) (sym (ap (λ (x : Face). x.tet) c.face.view_is))
    (tree_face_inside c.args.skeleton.now.rows c.loop-tet.tet c.in-Some.face c.faces.ensures.skeleton.table
    (tree_face_is c.args.skeleton.now.rows c.args.tree.now c.loop-tet.tet _ c.in-Some.face c.requires c.loop-tet-test.true c.in-Some.is)).0

pub face_class-requires-clause-a_face : goal.face_class-requires-clause-a_face
face_class-requires-clause-a_face c =
    subst (λ f. f < 4) (sym (ap (λ (x : Face). x.face) c.face.view_is))
    (tree_face_inside c.args.skeleton.now.rows c.loop-tet.tet c.in-Some.face c.faces.ensures.skeleton.table
    (tree_face_is c.args.skeleton.now.rows c.args.tree.now c.loop-tet.tet _ c.in-Some.face c.requires c.loop-tet-test.true c.in-Some.is)).1

pub loop-tet-preserved : goal.loop-tet-preserved
loop-tet-preserved c = elim c.match-tree-tet.branch [
  | in-Some w ↦ class_marked c.args.skeleton.now c.loop-tet.tet c.loop-tet.marks.items c.match-tree-tet.marks.items w.in-Some.face w.face_class.result
      (tree_face_is c.args.skeleton.now.rows c.args.tree.now c.loop-tet.tet _ w.in-Some.face c.requires c.loop-tet-test.true w.in-Some.is)
      (w.face_class.ensures.class ∙ ap₂ (λ t f. slice_index c.args.skeleton.now.faces.classes (4 * t + f)) (ap (λ (x : Face). x.tet) w.face.view_is) (ap (λ (x : Face). x.face) w.face.view_is))
      w.face_class.ensures.below (ap (λ (v : Vec Bool Global). v.items) w.marks-is) c.loop-tet.invariant
  | in_default w ↦ subst (AreTreeClassesBelow c.args.skeleton.now (c.loop-tet.tet + 1)) (sym (ap (λ (v : Vec Bool Global). v.items) w.marks-is))
      (class_passes c.args.skeleton.now c.loop-tet.tet c.loop-tet.marks.items
      (tree_root_is c.args.skeleton.now.rows c.args.tree.now c.loop-tet.tet _ c.requires c.loop-tet-test.true w.in_default.is) c.loop-tet.invariant)
]

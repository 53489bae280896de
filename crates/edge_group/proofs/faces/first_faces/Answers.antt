-- A face with a new class is the least face of the class.
use Rattle.std.proofs.Common.{◌≡◌, ◌+◌, ◌*◌, ◌<◌, ℕ, List, Vec, Global, [], ◌∷◌, ◌++◌, length, length-append, ap, sym, subst, arith, ◌∙◌}
use Rattle.std.specs.Prelude.{slice_index}
use Rattle.table_definitions.specs.Table.{Face}
use Rattle.skeleton_class_laws.specs.Numberings.{AreFirstsUpTo}
use Rattle.skeleton_class_laws.proofs.NumberingLemmas.{first_passes, first_grows}
use Rattle.presentation_laws.proofs.Firsts.{faces_ordered, least_faces, face_number_of}
use Rattle.edge_group.proofs.faces.first_faces.Goals as goal
use Rattle.edge_group.proofs.faces.first_faces.Goals.{then-face_class-len+in_ok-push, else-face_class-len}

pub loop-number-preserved : goal.loop-number-preserved
loop-number-preserved c = elim c.if-face_class-len.branch [
  | then-face_class-len+in_ok-push w ↦
      let e : c.if-face_class-len.firsts.items ≡ c.loop-number.firsts.items ++ c.loop-number.number ∷ [] = ap (λ (v : Vec ℕ Global). v.items) w.firsts-is ∙ w.in_ok-push.ensures.items in
      record {
        up_to = subst (AreFirstsUpTo (c.loop-number.number + 1) c.args.skeleton.now.faces.classes) (sym e)
            (first_grows c.loop-number.number c.args.skeleton.now.faces.classes c.loop-number.firsts.items c.loop-number.invariant.up_to inside
            (sym class ∙ w.if-face_class-len.true ∙ c.len.ensures ∙ c.loop-number.firsts.ok.0));
        limited = omega (arith, ap (λ (xs : List ℕ). length xs) e, length-append c.loop-number.firsts.items (c.loop-number.number ∷ []));
      }
  | else-face_class-len w ↦
      let e : c.if-face_class-len.firsts.items ≡ c.loop-number.firsts.items = ap (λ (v : Vec ℕ Global). v.items) w.firsts-is in
      record {
        up_to = subst (AreFirstsUpTo (c.loop-number.number + 1) c.args.skeleton.now.faces.classes) (sym e)
            (first_passes c.loop-number.number c.args.skeleton.now.faces.classes c.loop-number.firsts.items (faces_ordered c.args.skeleton.now c.faces.ensures.skeleton) c.loop-number.invariant.up_to inside
            (λ h. w.if-face_class-len.false (class ∙ h ∙ sym (c.len.ensures ∙ c.loop-number.firsts.ok.0))));
        limited = omega (arith, ap (λ (xs : List ℕ). length xs) e);
      }
]
  where
    class : c.face_class.result ≡ slice_index c.args.skeleton.now.faces.classes c.loop-number.number
    class = c.face_class.ensures.class ∙ ap (slice_index c.args.skeleton.now.faces.classes)
        (face_number_of c.face_of-face.result c.face.inside.tet c.face.inside.face c.loop-number.number (ap (λ (x : Face). x.tet) c.face.view_is) (ap (λ (x : Face). x.face) c.face.view_is) c.face_of-face.ensures.value)

    inside : c.loop-number.number < length c.args.skeleton.now.faces.classes
    inside = let a : length c.table.result.now ≡ length c.args.skeleton.now.rows = ap length c.table.ensures.rows in
        omega (arith, c.loop-number-test.true, c.len-number-end.ensures.value, c.faces.ensures.skeleton.faces.one_each)

pub returns : goal.returns
returns c = least_faces c.args.skeleton.now c.faces.ensures.skeleton c.loop-number.number c.loop-number.firsts.items all c.loop-number.invariant.up_to
  where
    all : c.loop-number.number ≡ 4 * length c.args.skeleton.now.rows
    all = let a : length c.table.result.now ≡ length c.args.skeleton.now.rows = ap length c.table.ensures.rows in
        omega (arith, c.loop-number-test.false, c.loop-number.auto.number-end, c.len-number-end.ensures.value)

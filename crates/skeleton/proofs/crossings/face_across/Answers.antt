use Rattle.std.proofs.Common.{sym, ap, ◌∙◌}
use Rattle.std.proofs.lemmas.Bool.{ne_eqb}
use Rattle.skeleton_class_laws.proofs.CrossingLemmas.{crossed_face-other, crossed_face-free, crossed_face-is}
use Rattle.table_definitions.specs.Table.{Face}
use Rattle.skeleton.proofs.crossings.face_across.Goals as goal

pub returns-then-choice-ne0 : goal.returns-then-choice-ne0
returns-then-choice-ne0 c = sym (crossed_face-other _ _ _ (ne_eqb _ _ c.if-choice-ne0.true))

pub returns-in_default : goal.returns-in_default
returns-in_default c = sym (crossed_face-free _ _ _ c.if-choice-ne0.false (sym c.in_default.ensures.value))

pub returns : goal.returns
returns c = crossed_face-is _ _ _ c.in-Some.glue _ _ c.if-choice-ne0.false c.in-Some.ensures.value
    (ap (λ (x : Face). x.tet) (c.other.view_is ∙ c.other_side-other.ensures.value)) (ap (λ (x : Face). x.face) (c.other.view_is ∙ c.other_side-other.ensures.value))

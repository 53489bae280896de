use Rattle.std.proofs.Common.{sym, ap, refl, ◌∙◌}
use Rattle.table_definitions.specs.Permutation.{is_odd}
use Rattle.table_definitions.specs.Table.{Gluing}
use Rattle.skeleton_class_laws.proofs.SignTies.{crossed_sign-by, crossed_sign-free}
use Rattle.skeleton.proofs.signs.sign_across.Goals as goal

pub returns-in_default : goal.returns-in_default
returns-in_default c = sym (crossed_sign-free _ _ _ (sym c.in_default.ensures.value))

pub returns-then-is_odd : goal.returns-then-is_odd
returns-then-is_odd c = crossed_sign-by _ _ _ c.in-Some.glue _ _ _ c.in-Some.ensures.value (ap (λ (g : Gluing). g.tet) c.glue.view_is)
    (ap (λ (g : Gluing). is_odd g.perm) (sym c.glue.view_is) ∙ sym c.is_odd.ensures ∙ c.if-is_odd.true) refl

pub returns-else-is_odd : goal.returns-else-is_odd
returns-else-is_odd c = crossed_sign-by _ _ _ c.in-Some.glue _ _ _ c.in-Some.ensures.value (ap (λ (g : Gluing). g.tet) c.glue.view_is)
    (ap (λ (g : Gluing). is_odd g.perm) (sym c.glue.view_is) ∙ sym c.is_odd.ensures ∙ c.if-is_odd.false) refl

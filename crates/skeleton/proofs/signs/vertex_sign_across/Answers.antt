use Rattle.std.proofs.Common.{◌/◌, ◌%◌, sym, ap, refl, ◌∙◌}
use Rattle.std.proofs.lemmas.Bool.{eq-eqb, ne_eqb}
use Rattle.table_definitions.specs.Permutation.{image, is_odd}
use Rattle.table_definitions.specs.Table.{Gluing}
use Rattle.skeleton_class_laws.proofs.VertexSignTies.{crossed_vertex_sign-by, crossed_vertex_sign-own, crossed_vertex_sign-free}
use Rattle.skeleton.proofs.signs.vertex_sign_across.Goals as goal

pub returns-then-v-exit : goal.returns-then-v-exit
returns-then-v-exit c = sym (crossed_vertex_sign-own _ _ _ (eq-eqb _ _ c.if-v-exit.true))

pub returns-in_default : goal.returns-in_default
returns-in_default c = sym (crossed_vertex_sign-free _ _ _ (ne_eqb _ _ c.if-v-exit.false) (sym c.in_default.ensures.value))

pub returns-then-is_odd : goal.returns-then-is_odd
returns-then-is_odd c = crossed_vertex_sign-by _ _ _ c.in-Some.glue _ _ _ _ (ne_eqb _ _ c.if-v-exit.false) c.in-Some.ensures.value (ap (λ (g : Gluing). g.tet) c.glue.view_is)
    (c.image.ensures.value ∙ ap (λ (g : Gluing). image g.perm (c.args.place / 2 % 4)) c.glue.view_is)
    (ap (λ (g : Gluing). is_odd g.perm) (sym c.glue.view_is) ∙ sym c.is_odd.ensures ∙ c.if-is_odd.true) refl

pub returns-else-is_odd : goal.returns-else-is_odd
returns-else-is_odd c = crossed_vertex_sign-by _ _ _ c.in-Some.glue _ _ _ _ (ne_eqb _ _ c.if-v-exit.false) c.in-Some.ensures.value (ap (λ (g : Gluing). g.tet) c.glue.view_is)
    (c.image.ensures.value ∙ ap (λ (g : Gluing). image g.perm (c.args.place / 2 % 4)) c.glue.view_is)
    (ap (λ (g : Gluing). is_odd g.perm) (sym c.glue.view_is) ∙ sym c.is_odd.ensures ∙ c.if-is_odd.false) refl

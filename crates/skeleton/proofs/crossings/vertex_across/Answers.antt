use Rattle.std.proofs.Common.{◌%◌, sym, ap, ◌∙◌}
use Rattle.std.proofs.lemmas.Bool.{eq-eqb, ne_eqb}
use Rattle.skeleton_class_laws.proofs.CrossingLemmas.{crossed_vertex-own, crossed_vertex-free, crossed_vertex-is}
use Rattle.table_definitions.specs.Permutation.{image}
use Rattle.table_definitions.specs.Table.{Gluing}
use Rattle.skeleton.proofs.crossings.vertex_across.Goals as goal

pub returns-then-v-exit : goal.returns-then-v-exit
returns-then-v-exit c = sym (crossed_vertex-own _ _ _ (eq-eqb _ _ c.if-v-exit.true))

pub returns-in_default : goal.returns-in_default
returns-in_default c = sym (crossed_vertex-free _ _ _ (ne_eqb _ _ c.if-v-exit.false) (sym c.in_default.ensures.value))

pub returns : goal.returns
returns c = crossed_vertex-is _ _ _ c.in-Some.glue _ _ (ne_eqb _ _ c.if-v-exit.false) c.in-Some.ensures.value
    (ap (λ (g : Gluing). g.tet) c.glue.view_is) (c.image.ensures.value ∙ ap (λ (g : Gluing). image g.perm (c.args.vertex % 4)) c.glue.view_is)

use Rattle.std.proofs.Common.{◌≡◌, sym, ap, ◌∙◌, subst, List, ℕ, ◌/◌, None}
use Rattle.table_definitions.specs.Permutation.{image, compose}
use Rattle.table_definitions.specs.Table.{Gluing, glue}
use Rattle.skeleton_class_laws.proofs.RoundLemmas.{next_corner-free, next_corner-by}
use Rattle.skeleton.proofs.corners.next_place.Goals as goal

pub returns-in_default : goal.returns-in_default
returns-in_default c = sym (next_corner-free c.args.table.now c.args.place
    (subst (λ (w : List ℕ). glue c.args.table.now (record { tet = c.args.place / 24; face = image w 2 }) ≡ None) c.order-order.ensures.value
    (ap (λ f. glue c.args.table.now (record { tet = c.args.place / 24; face = f })) (sym c.image.ensures.value) ∙ sym c.in_default.ensures.value)))

pub returns : goal.returns
returns c = next_corner-by c.args.table.now c.args.place c.in-Some.glue c.order-order.result c.compose-across.result _ _ c.order-order.ensures.value
    (ap (λ f. glue c.args.table.now (record { tet = c.args.place / 24; face = f })) (sym c.image.ensures.value) ∙ sym c.in-Some.ensures.value)
    (ap (λ (g : Gluing). g.tet) c.glue.view_is)
    (c.compose-across.ensures.value ∙ (λ i. compose (first i) (c.swap.ensures i))) c.index.ensures.value
  where
    first : c.compose.result ≡ compose c.in-Some.glue.perm c.order-order.result
    first = c.compose.ensures.value ∙ ap (λ (g : Gluing). compose g.perm c.order-order.result) c.glue.view_is

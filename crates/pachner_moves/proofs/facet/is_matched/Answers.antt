use Rattle.std.proofs.Common.{ap, ◌∙◌, List, ℕ}
use Rattle.table_definitions.specs.Table.{Gluing, glue}
use Rattle.table_definitions.specs.Permutation.{compose}
use Rattle.move_definitions.specs.Moves.{Facet, opposite}
use Rattle.table_definitions.proofs.ListFacts.{pointwise-same_list}
use Rattle.pachner_moves.proofs.MatchLaws.{matched}
use Rattle.pachner_moves.proofs.facet.is_matched.Goals as goal

pub returns-then-glue-g : goal.returns-then-glue-g
returns-then-glue-g c =
    matched c.args.f c.args.g (glue c.args.table.now (opposite c.args.f c.args.g.missing)) c.in-Some.glue c.glue.inside.tet c.glue.inside.perm c.labels_reached.result c.required_labels.result c.eq.result
    (c.in-Some.ensures.value ∙ ap (λ (l : ℕ). glue c.args.table.now (opposite c.args.f l)) (ap (λ (g : Facet). g.missing) c.g.view_is)) (ap (λ (g : Gluing). g.tet) c.glue.view_is) (ap (λ (g : Gluing). g.perm) c.glue.view_is)
    (c.if-glue-g.true ∙ ap (λ (g : Facet). g.tet) c.g.view_is)
    (c.labels_reached.ensures ∙ ap (λ (ls : List ℕ). compose ls c.glue.inside.perm) (ap (λ (g : Facet). g.labels) c.g.view_is))
    c.required_labels.ensures
    (c.eq.ensures ∙ pointwise-same_list c.labels_reached.result c.required_labels.result)

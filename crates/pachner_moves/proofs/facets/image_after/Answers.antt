use Rattle.std.proofs.Common.{ap, ◌∙◌, List, ℕ}
use Rattle.table_definitions.specs.Permutation.{image}
use Rattle.table_definitions.specs.Table.{Face}
use Rattle.move_definitions.specs.Moves.{Facet}
use Rattle.pachner_moves.proofs.CodeLaws.{old_found, stand_some, stand_none}
use Rattle.pachner_moves.proofs.facets.image_after.Goals as goal

pub facet_image_after-requires : goal.facet_image_after-requires
facet_image_after-requires c = (old_found c.args.taken.table.now c.args.taken.m.now c.args.taken.facets.now c.x.inside.tet c.in-Some.f c.args.taken.old c.in-Some.ensures).1.labelled

pub returns-in-Some : goal.returns-in-Some
returns-in-Some c =
    c.facet_image_after.ensures
    ∙ stand_some c.args.taken.table.now c.args.taken.m.now c.args.taken.facets.now c.in-Some.f c.args.x c.x.inside.tet _ c.args.taken.old.are c.in-Some.ensures (ap (λ (x : Face). x.tet) c.x.view_is)
    (ap (λ (ls : List ℕ). image ls c.x.inside.face) (ap (λ (f : Facet). f.labels) c.f.view_is) ∙ ap (image c.in-Some.f.labels) (ap (λ (x : Face). x.face) c.x.view_is))

pub returns-in-None : goal.returns-in-None
returns-in-None c =
    stand_none c.args.taken.table.now c.args.taken.m.now c.args.taken.facets.now c.args.x c.x.inside.tet c.retained_image_after.result c.args.taken.old.are c.in-None.ensures (ap (λ (x : Face). x.tet) c.x.view_is) c.retained_image_after.ensures

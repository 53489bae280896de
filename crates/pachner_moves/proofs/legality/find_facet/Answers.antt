use Rattle.std.proofs.Common.{ap, ◌∙◌}
use Rattle.move_definitions.specs.Moves.{Facet, Move, facet}
use Rattle.move_laws.proofs.FindLaws.{is_boundary, repeated_by, free_by}
use Rattle.pachner_moves.proofs.legality.find_facet.Goals as goal

pub returns-in_default-clause-fault : goal.returns-in_default-clause-fault
returns-in_default-clause-fault c = is_boundary c.args.table.now c.args.m.now c.args.label (c.in_default.ensures ∙ ap (λ (m : Move). facet c.args.table.now m c.args.label) c.m.view_is)

pub returns-then-is_taken-clause-fault : goal.returns-then-is_taken-clause-fault
returns-then-is_taken-clause-fault c =
    repeated_by c.args.table.now c.args.m.now c.args.label c.args.found.now c.in-Some.facet c.m.inside.tet c.facet.inside.tet c.requires.from_core c.requires.a_label c.requires.found
    (c.in-Some.ensures ∙ ap (λ (m : Move). facet c.args.table.now m c.args.label) c.m.view_is) (ap (λ (m : Move). m.tet) c.m.view_is) (ap (λ (f : Facet). f.tet) c.facet.view_is) c.if-is_taken.ensures

pub returns-clause-none : goal.returns-clause-none
returns-clause-none c =
    free_by c.args.table.now c.args.m.now c.args.label c.args.found.now c.in-Some.facet c.m.inside.tet c.facet.inside.tet c.requires.from_core c.requires.a_label c.requires.found
    (c.in-Some.ensures ∙ ap (λ (m : Move). facet c.args.table.now m c.args.label) c.m.view_is) (ap (λ (m : Move). m.tet) c.m.view_is) (ap (λ (f : Facet). f.tet) c.facet.view_is) c.if-is_taken.ensures

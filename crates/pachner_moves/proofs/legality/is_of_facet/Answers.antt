use Rattle.std.proofs.Common.{ap, ◌∙◌, sym}
use Rattle.move_definitions.specs.Moves.{Facet}
use Rattle.move_laws.proofs.FindLaws.{any_at}
use Rattle.pachner_moves.proofs.legality.is_of_facet.Goals as goal

pub returns-then-facet-tet : goal.returns-then-facet-tet
returns-then-facet-tet c =
    any_at c.args.facets.now c.loop-facet.facet-index c.facet-item.result c.args.tet c.loop-facet-test.true c.facet-item.is (ap (λ (f : Facet). f.tet) (sym c.facet.view_is) ∙ c.if-facet-tet.true)

-- One more edge class.
use Rattle.std.proofs.Common.{map, ap, subst, All, ◌∙◌}
use Rattle.std.proofs.lemmas.List.{map_push}
use Rattle.std.specs.Prelude.{slice_index}
use Rattle.skeleton_definitions.specs.Skeleton.{IsAround}
use Rattle.presentation_definitions.specs.Presentations.{IsRelator}
use Rattle.presentation_laws.specs.Classes.{LeavesInRange}
use Rattle.edge_group.specs.Fields.{letters_of}
use Rattle.edge_group.specs.Generators.{Generators}
use Rattle.edge_group.proofs.Relating.{around_leaves, zip_taken}
use Rattle.edge_group.proofs.generators.Generators.relators.Goals as goal

pub relator-requires : goal.relator-requires
relator-requires c =
    subst (λ (g : Generators). All (LeavesInRange g.skeleton.rows) c.around.result.now) c.self.view_is
    (around_leaves c.self.inside.skeleton.now c.self.invariant.skeleton.table _ c.around.result.now c.around.ensures)

pub loop-class-preserved : goal.loop-class-preserved
loop-class-preserved c =
    zip_taken (IsRelator c.args.self.now.skeleton c.args.self.now.classes) c.args.edges.now c.loop-class.class-index (map letters_of c.loop-class.relators.items) (map letters_of c.push.new.self.items) c.in_ok-relator.field-0.items
    c.loop-class-test.true (ap (map letters_of) c.in_ok-push.ensures.items ∙ map_push letters_of c.loop-class.relators.items c.in_ok-relator.field-0)
    (record {
      corners = c.around.result.now;
      around = subst (λ (g : Generators). IsAround g.skeleton (slice_index c.args.edges.now c.loop-class.class-index) c.around.result.now) c.self.view_is c.around.ensures;
      read = c.in_ok-relator.ensures;
    })
    c.loop-class.invariant

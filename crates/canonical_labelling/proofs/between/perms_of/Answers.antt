use Rattle.std.proofs.Common.{[], ap, ◌∙◌}
use Rattle.std.specs.Prelude.{slice_index}
use Rattle.std.specs.List.{slice_index_or}
use Rattle.table_definitions.specs.Permutation.{inverse, compose}
use Rattle.table_definitions.proofs.ListFacts.{map_below_more}
use Rattle.canonical_labelling.proofs.between.perms_of.Goals as goal

pub loop-tet-preserved : goal.loop-tet-preserved
loop-tet-preserved c =
    map_below_more (λ t. compose (inverse (slice_index_or c.args.pair.second.now.perms (slice_index c.args.images.now t) [])) (slice_index_or c.args.pair.first.now.perms t [])) c.loop-tet.tet c.loop-tet.perms.items
    c.push.new.self.items _ c.loop-tet.invariant c.in_ok-push.ensures.items
    (c.compose.ensures.value ∙ ap (λ q. compose q c.perm-in-loop-tet.result) (c.inverse-back.ensures.value ∙ ap inverse c.perm.ensures)
    ∙ ap (compose (inverse (slice_index_or c.args.pair.second.now.perms (slice_index c.args.images.now c.loop-tet.tet) []))) c.perm-in-loop-tet.ensures)

-- One more image.
use Rattle.std.proofs.Common.{ap₂, ◌∙◌}
use Rattle.cover_definitions.specs.Cover.{above, over, copy_of}
use Rattle.table_definitions.proofs.ListFacts.{map_below_more}
use Rattle.double_cover.proofs.images.split_images.Goals as goal

pub loop-tet-preserved : goal.loop-tet-preserved
loop-tet-preserved c =
    map_below_more (λ u. above c.args.sheets.tets (over c.args.sheets.tets u) (copy_of c.args.sheets.tets c.args.signs.now u)) c.loop-tet.tet c.loop-tet.images.items c.push.new.self.items _ c.loop-tet.invariant
    c.in_ok-push.ensures.items (c.above.ensures ∙ ap₂ (above c.args.sheets.tets) c.over.ensures c.copy_of-copy.ensures)

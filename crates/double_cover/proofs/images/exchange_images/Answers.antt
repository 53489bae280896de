-- One more image.
use Rattle.std.proofs.Common.{ap, ap₂, ◌∙◌}
use Rattle.cover_definitions.specs.Cover.{above, over, other_sheet, sheet}
use Rattle.table_definitions.proofs.ListFacts.{map_below_more}
use Rattle.double_cover.proofs.images.exchange_images.Goals as goal

pub loop-tet-preserved : goal.loop-tet-preserved
loop-tet-preserved c =
    map_below_more (λ u. above c.args.sheets.tets (over c.args.sheets.tets u) (other_sheet (sheet c.args.sheets.tets u))) c.loop-tet.tet c.loop-tet.images.items c.push.new.self.items _ c.loop-tet.invariant
    c.in_ok-push.ensures.items (c.above.ensures ∙ ap₂ (above c.args.sheets.tets) c.over.ensures (c.other-there.ensures ∙ ap other_sheet c.sheet.ensures))

-- One more line.
use Rattle.std.proofs.Common.{length, refl}
use Rattle.outcome_definitions.specs.Covers.{sheet_line}
use Rattle.outcome_definitions.proofs.ClassTexts.{lines_begin, lines_more}
use Rattle.topology_commands.proofs.sheets.append_sheets.Goals as goal

pub loop-tet-init : goal.loop-tet-init
loop-tet-init c = lines_begin _ _

pub loop-tet-preserved : goal.loop-tet-preserved
loop-tet-preserved c =
    lines_more (sheet_line (length c.args.cover.now)) c.loop-tet.tet c.args.text.now.items c.loop-tet.text.items c.append_sheet.new.text.items (sheet_line (length c.args.cover.now) c.loop-tet.tet)
    c.in_ok-append_sheet.ensures c.loop-tet.invariant refl

-- One more row, and in the end all of them.
use Rattle.std.proofs.Common.{◌≡◌, ◌*◌, length, arith}
use Rattle.cover_definitions.specs.Cover.{cover_row}
use Rattle.table_definitions.proofs.ListFacts.{map_below_more}
use Rattle.double_cover.proofs.CoverRows.{all_rows}
use Rattle.double_cover.proofs.rows.cover_rows.Goals as goal

pub loop-tet-preserved : goal.loop-tet-preserved
loop-tet-preserved c =
    map_below_more (cover_row c.args.table.now) c.loop-tet.tet c.loop-tet.rows.items c.push.new.self.items _ c.loop-tet.invariant c.in_ok-push.ensures.items c.cover_row.ensures

pub returns-clause-rows : goal.returns-clause-rows
returns-clause-rows c =
    let all : c.loop-tet.tet ≡ 2 * length c.args.table.now = omega (arith, c.loop-tet-test.false, c.loop-tet.auto.tet-end, c.len-count.ensures.value) in
    all_rows c.args.table.now c.loop-tet.rows.items c.loop-tet.tet all c.loop-tet.invariant
